-- On grids: the listed places of the final C of an assign are A's.
use Prim.Native.Nat.{ℕ, ◌≤◌, ◌<◌}
use native.Mathlib.Omega.{arith}
use native.Mathlib.Decide.{dec_lt, ℕ_discrete}
use mathlib.Core.Path.{◌≡◌, refl, sym, ◌∙◌}
use mathlib.Core.List.{List}
use mathlib.Core.Bool.{true}
use lib.ListN.{length}
use borrow.Author.Tests.{eqb-true}
use Rattle.words.specs.Words.{at}
use Rattle.conditions.proofs.Tests.{and_left, and_right}
use Rattle.grid.specs.Cell.{Cell}
use Rattle.grid.specs.Grid.{Grid, Same}
use Rattle.operations.specs.declared.Call.{Call}
use Rattle.operations.specs.CellOperations.{listed_cell}
use Rattle.operations.specs.WriteBacks.{write_back}
use Rattle.operations.specs.Calls.{call_final, list_valid, indexes_valid, shapes_agree}
use Rattle.operations.proofs.Lists.{list_facts}
use Rattle.operations.proofs.Listed.{listed_at}
use Rattle.call_codes.specs.declared.Verb.TheVariants.{Assign, Extract}
use Rattle.call_codes.specs.Decoding.{decoded}
use Rattle.result_rows.proofs.Inputs.{list_once}
use Rattle.assign_extract.specs.ReadBack.{plainly}

-- the two calls
abbrev pub assigning : Call
assigning = decoded plainly Assign

abbrev pub extracting : Call
extracting = decoded plainly Extract

-- an index of a valid list stands at one place
one_place : (n : ℕ) (l : List ℕ) → list_valid n l ≡ true → (k : ℕ) → k < length l → (h : ℕ) → h < length l
    → at l h ≡ at l k → h ≡ k
one_place n l v k m h q e = go (ℕ_discrete h k) (dec_lt h k)
  where
    go : Dec (h ≡ k) → Dec (h < k) → h ≡ k
    go (yes z) d = z
    go (no z) (yes d) = absurd (list_once n l v h k d m e)
    go (no z) (no d) = absurd (list_once n l v k h (omega arith) q (sym e))

-- the cell at a listed place
listed_cell_lem : (n : ℕ) (l : List ℕ) → list_valid n l ≡ true → (k : ℕ) → k < length l → (f : ℕ → Cell) (c : Cell)
    → listed_cell (length l) l (at l k) f c ≡ f k
listed_cell_lem n l v k m f c = listed_at (length l) l (at l k) k f c m refl (one_place n l v k m)

module _ (a b m c g b' m' d : Grid) (is js : List ℕ)
    (s : Same g (call_final assigning a b m c is js)) (v : indexes_valid assigning a b c is js ≡ true)
    (w : shapes_agree assigning a b m c is js ≡ true) (u : shapes_agree extracting g b' m' d is js ≡ true) where
  rows_listed : list_valid c.rows is ≡ true
  unfolding indexes_valid
  rows_listed = and_left _ _ v

  cols_listed : list_valid c.cols js ≡ true
  unfolding indexes_valid
  cols_listed = and_right _ _ v

  -- A has the lengths of the lists as its shape, and so has D
  first_rows : a.rows ≡ length is
  unfolding shapes_agree
  first_rows = eqb-true _ _ (and_left _ _ (and_left _ _ (and_left _ _ (and_right _ _ w))))

  first_cols : a.cols ≡ length js
  unfolding shapes_agree
  first_cols = eqb-true _ _ (and_right _ _ (and_left _ _ (and_left _ _ (and_right _ _ w))))

  output_rows : length is ≡ d.rows
  unfolding shapes_agree
  output_rows = eqb-true _ _ (and_left _ _ (and_left _ _ (and_right _ _ (and_right _ _ u))))

  output_cols : length js ≡ d.cols
  unfolding shapes_agree
  output_cols = eqb-true _ _ (and_right _ _ (and_left _ _ (and_right _ _ (and_right _ _ u))))

  -- the final C of the assign, at a listed place
  assigned_cell_lem : (i j : ℕ) → i < length is → j < length js
      → (call_final assigning a b m c is js).cell (at is i) (at js j) ≡ a.cell i j
  unfolding call_final write_back
  assigned_cell_lem i j p q =
      listed_cell_lem c.rows is rows_listed i p _ _ ∙ listed_cell_lem c.cols js cols_listed j q (a.cell i) _

  cells : (i j : ℕ) → i < a.rows → j < a.cols → (call_final extracting g b' m' d is js).cell i j ≡ a.cell i j
  unfolding call_final write_back
  cells i j p q =
      let x : i < length is = omega (arith, first_rows) in
      let y : j < length js = omega (arith, first_cols) in
      s.cell (at is i) (at js j) ((list_facts c.rows is rows_listed).below i x)
      ((list_facts c.cols js cols_listed).below j y)
      ∙ assigned_cell_lem i j x y

  pub grids_back : Same (call_final extracting g b' m' d is js) a
  unfolding call_final
  grids_back = record {
    rows = sym output_rows ∙ sym first_rows;
    cols = sym output_cols ∙ sym first_cols;
    cell = cells;
  }
