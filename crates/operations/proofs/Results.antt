-- T depends only on the cells of its inputs within their shapes.
use Prim.Native.Nat.{ℕ, zero, suc, ◌/◌, ◌%◌, ◌<◌}
use native.Mathlib.Omega.{arith}
use mathlib.Core.Path.{◌≡◌, refl, sym, ap, ◌∙◌}
use mathlib.Core.List.{List}
use mathlib.Core.Bool.{Bool, true, false, cond, false≢true}
use lib.ListN.{length}
use borrow.Author.Tests.{eqb-true}
use Rattle.words.specs.Words.{at}
use Rattle.conditions.proofs.Tests.{and_left, and_right}
use Rattle.grid.specs.Cell.{Cell}
use Rattle.grid.specs.Grid.{Grid, Same}
use Rattle.operators.specs.declared.BinaryOp.{BinaryOp}
use Rattle.operators.specs.declared.Monoid.{Monoid}
use Rattle.reductions.specs.Reductions.{reduced_row}
use Rattle.reductions.proofs.Same.{row_same}
use Rattle.operations.specs.declared.Operation.{Operation}
use Rattle.operations.specs.declared.Operation.TheVariants.{
  Mxm,
  EwiseMult,
  EwiseAdd,
  Apply,
  Extract,
  Select,
  ReduceRows,
  Assign,
  Kronecker,
}
use Rattle.operations.specs.CellOperations.{dot, intersect, unite, apply_cell, select_cell, unlisted_cell}
use Rattle.operations.specs.declared.Needs.{Needs}
use Rattle.operations.specs.declared.Shape.{Shape}
use Rattle.operations.specs.declared.Shapes.{Shapes}
use Rattle.operations.specs.GridOperations.{
  needs_of,
  result_cell,
  shape_of,
  no_shape,
  shapes_of,
  result_grid,
}
use Rattle.operations.specs.Lists.{Small}
use Rattle.operations.specs.Calls.{has_second, has_lists, inputs_agree, lists_valid}
use Rattle.operations.proofs.Lists.{list_facts}
use Rattle.operations.proofs.Listed.{listed_same}
use Rattle.operations.proofs.Blocks.{block_below, place_below}

-- a dot product depends only on the terms that it adds up
dot_same : (monoid : Monoid) (op : BinaryOp) (n : ℕ) (f f' g g' : ℕ → Cell) → ((k : ℕ) → k < n → f k ≡ f' k)
    → ((k : ℕ) → k < n → g k ≡ g' k) → dot monoid op n f g ≡ dot monoid op n f' g'
unfolding dot
dot_same monoid op zero f f' g g' p q = refl
dot_same monoid op (suc n) f f' g g' p q =
    rw (
      dot_same monoid op n f f' g g' (λ k l. p k (omega arith)) (λ k l. q k (omega arith)),
      p n (omega arith),
      q n (omega arith),
    )

-- the cells of T do not depend on a second input or on lists that the operation does not have
module _ (a b b' c : Grid) (is is' js js' : List ℕ) where
  second_cells : (op : Operation) → has_second op ≡ false
      → result_cell op a b c is js ≡ result_cell op a b' c is js
  second_cells (Mxm monoid op) h = absurd (false≢true (sym h))
  second_cells (EwiseMult op) h = absurd (false≢true (sym h))
  second_cells (EwiseAdd op) h = absurd (false≢true (sym h))
  second_cells (Apply op) h = refl
  second_cells Extract h = refl
  second_cells (Select op) h = refl
  second_cells (ReduceRows monoid) h = refl
  second_cells (Assign accumulator) h = refl
  second_cells (Kronecker op) h = absurd (false≢true (sym h))

  lists_cells : (op : Operation) → has_lists op ≡ false
      → result_cell op a b c is js ≡ result_cell op a b c is' js'
  lists_cells (Mxm monoid op) h = refl
  lists_cells (EwiseMult op) h = refl
  lists_cells (EwiseAdd op) h = refl
  lists_cells (Apply op) h = refl
  lists_cells Extract h = absurd (false≢true (sym h))
  lists_cells (Select op) h = refl
  lists_cells (ReduceRows monoid) h = refl
  lists_cells (Assign accumulator) h = absurd (false≢true (sym h))
  lists_cells (Kronecker op) h = refl

-- the shapes of a call, one by one
abbrev shapes_from : Shape → Shape → Shape → Shape → Shapes
shapes_from a b c l = record { first = a; second = b; output = c; lists = l }

-- nor what it asks for on the lengths of lists
lists_needs : (op : Operation) (s : Shapes) (l : Shape) → has_lists op ≡ false
    → needs_of op s ≡ needs_of op (shapes_from s.first s.second s.output l)
lists_needs (Mxm monoid op) s l h = refl
lists_needs (EwiseMult op) s l h = refl
lists_needs (EwiseAdd op) s l h = refl
lists_needs (Apply op) s l h = refl
lists_needs Extract s l h = absurd (false≢true (sym h))
lists_needs (Select op) s l h = refl
lists_needs (ReduceRows monoid) s l h = refl
lists_needs (Assign accumulator) s l h = absurd (false≢true (sym h))
lists_needs (Kronecker op) s l h = refl

-- the bounds of the indexes are the shape of a matrix of the call
pub bounds_small : (n : ℕ) (s : Shapes) → Small n s.first → Small n s.output → (op : Operation)
    → Small n (needs_of op s).bounds
bounds_small n s first output (Mxm monoid op) = first
bounds_small n s first output (EwiseMult op) = first
bounds_small n s first output (EwiseAdd op) = first
bounds_small n s first output (Apply op) = first
bounds_small n s first output Extract = first
bounds_small n s first output (Select op) = first
bounds_small n s first output (ReduceRows monoid) = first
bounds_small n s first output (Assign accumulator) = output
bounds_small n s first output (Kronecker op) = first

-- the shapes of grids that agree
shape_same : (g h : Grid) → Same g h → shape_of g ≡ shape_of h
shape_same g h s = rw (s.rows, s.cols)

there_same : (h : Bool) (g g' : Grid) → (h ≡ true → Same g g')
    → cond h (shape_of g) no_shape ≡ cond h (shape_of g') no_shape
there_same true g g' t = shape_same g g' (t refl)
there_same false g g' t = refl

shapes_by : {p p' q q' r r' : Shape} → p ≡ p' → q ≡ q' → r ≡ r' → (l : Shape)
    → shapes_from p q r l ≡ shapes_from p' q' r' l
shapes_by e f g l = rw (e, f, g)

-- the grid of a T by what the operation asks for and its cells
abbrev grid : Needs → (ℕ → ℕ → Cell) → Grid
grid n cell = record { rows = n.result.rows; cols = n.result.cols; cell = cell }

module _ (a a' b b' c c' : Grid) (is js : List ℕ) (s : Same a a') (u : Same c c') where
  -- the cells of T, within its shape
  pub cell_same : (op : Operation) → (has_second op ≡ true → Same b b')
      → inputs_agree (shapes_of op a' b' c' is js) (needs_of op (shapes_of op a' b' c' is js)) ≡ true
      → lists_valid op (needs_of op (shapes_of op a' b' c' is js)).bounds is js ≡ true → (i j : ℕ)
      → i < (result_grid op a' b' c' is js).rows → j < (result_grid op a' b' c' is js).cols
      → result_cell op a b c is js i j ≡ result_cell op a' b' c' is js i j
  cell_same (Mxm monoid op) t g v i j l m =
      let e : b'.rows ≡ a'.cols = eqb-true _ _ (and_left _ _ (and_right _ _ g)) in
      ap (λ (n : ℕ). dot monoid op n (a.cell i) (λ k. b.cell k j)) s.cols
      ∙ dot_same monoid op a'.cols _ _ _ _ (λ k q. s.cell i k l q) (λ k q. (t refl).cell k j (omega arith) m)
  cell_same (EwiseMult op) t g v i j l m =
      let e : b'.rows ≡ a'.rows = eqb-true _ _ (and_left _ _ (and_right _ _ g)) in
      let f : b'.cols ≡ a'.cols = eqb-true _ _ (and_right _ _ (and_right _ _ g)) in
      ap (λ (x : Cell). intersect op x (b.cell i j)) (s.cell i j l m)
      ∙ ap (intersect op (a'.cell i j)) ((t refl).cell i j (omega arith) (omega arith))
  cell_same (EwiseAdd op) t g v i j l m =
      let e : b'.rows ≡ a'.rows = eqb-true _ _ (and_left _ _ (and_right _ _ g)) in
      let f : b'.cols ≡ a'.cols = eqb-true _ _ (and_right _ _ (and_right _ _ g)) in
      ap (λ (x : Cell). unite op x (b.cell i j)) (s.cell i j l m)
      ∙ ap (unite op (a'.cell i j)) ((t refl).cell i j (omega arith) (omega arith))
  cell_same (Apply op) t g v i j l m =
      ap (apply_cell op i j) (s.cell i j l m)
  cell_same Extract t g v i j l m =
      s.cell (at is i) (at js j) ((list_facts _ _ (and_left _ _ v)).below i l) ((list_facts _ _ (and_right _ _ v)).below j m)
  cell_same (Select op) t g v i j l m =
      ap (select_cell op i j) (s.cell i j l m)
  cell_same (ReduceRows monoid) t g v i j l m =
      ap (λ (n : ℕ). reduced_row monoid n (a.cell j)) s.cols
      ∙ row_same monoid a'.cols _ _ (λ k q. s.cell j k m q)
  cell_same (Assign accumulator) t g v i j l m =
      let e : a'.rows ≡ length is = eqb-true _ _ (and_left _ _ (and_left _ _ g)) in
      let f : a'.cols ≡ length js = eqb-true _ _ (and_right _ _ (and_left _ _ g)) in
      let old = ap (unlisted_cell accumulator) (u.cell i j l m) in
      listed_same (length is) is i _ _ _ _
      (λ k p. listed_same (length js) js j _ _ _ _ (λ h q. s.cell k h (omega arith) (omega arith)) old) old
  cell_same (Kronecker op) t g v i j l m =
      ap (λ (n : ℕ). intersect op (a.cell (i / n) (j / b.cols)) (b.cell (i % n) (j % b.cols))) (t refl).rows
      ∙ ap (λ (n : ℕ). intersect op (a.cell (i / b'.rows) (j / n)) (b.cell (i % b'.rows) (j % n))) (t refl).cols
      ∙ ap (λ (x : Cell). intersect op x (b.cell (i % b'.rows) (j % b'.cols)))
      (s.cell (i / b'.rows) (j / b'.cols) (block_below a'.rows b'.rows i l) (block_below a'.cols b'.cols j m))
      ∙ ap (intersect op (a'.cell (i / b'.rows) (j / b'.cols)))
      ((t refl).cell (i % b'.rows) (j % b'.cols) (place_below a'.rows b'.rows i l)
      (place_below a'.cols b'.cols j m))

  -- the shapes of a call
  pub shapes_of_same : (op : Operation) → (has_second op ≡ true → Same b b')
      → shapes_of op a b c is js ≡ shapes_of op a' b' c' is js
  shapes_of_same op t =
      shapes_by (shape_same a a' s) (there_same (has_second op) b b' t) (shape_same c c' u)
      (record { rows = length is; cols = length js })

-- T, and the shapes, without a second input that the operation does not have
module _ (a b b' c : Grid) (is js : List ℕ) (op : Operation) (h : has_second op ≡ false) where
  pub shapes_unread : shapes_of op a b c is js ≡ shapes_of op a b' c is js
  shapes_unread = rw h

  pub second_unread : result_grid op a b c is js ≡ result_grid op a b' c is js
  second_unread =
      ap (λ (s : Shapes). grid (needs_of op s) (result_cell op a b c is js)) shapes_unread
      ∙ ap (grid (needs_of op (shapes_of op a b' c is js))) (second_cells a b b' c is is js js op h)

-- and without lists that it does not have
module _ (a b c : Grid) (is is' js js' : List ℕ) (op : Operation) (h : has_lists op ≡ false) where
  pub needs_unread : needs_of op (shapes_of op a b c is js) ≡ needs_of op (shapes_of op a b c is' js')
  needs_unread = lists_needs op (shapes_of op a b c is js) _ h

  pub lists_unread : result_grid op a b c is js ≡ result_grid op a b c is' js'
  lists_unread =
      ap (λ (n : Needs). grid n (result_cell op a b c is js)) needs_unread
      ∙ ap (grid (needs_of op (shapes_of op a b c is' js'))) (lists_cells a b b c is is' js js' op h)
