-- A read through the pair answers the cell of the folded grid.
use Rattle.std.proofs.Common.{None, Some}
use Prim.Native.Nat.{ℕ, ◌<◌}
use mathlib.Core.Path.{◌≡◌, refl, ◌∙◌}
use mathlib.Core.List.{List}
use mathlib.Core.Bool.{true}
use borrow.Author.Tests.{eq-eqb, lt-leb}
use Rattle.answers.specs.Answers.{CellAnswer}
use Rattle.answers.specs.Reads.{found_answer}
use Rattle.conditions.proofs.Tests.{and_both}
use Rattle.grid.specs.Cell.{Cell}
use Rattle.grid.specs.Grid.{Grid}
use Rattle.grid.specs.Position.{entry_position, entry_of, entry_at}
use Rattle.matrix.specs.Layout.{rows, cols, grid_of}
use Rattle.matrix.proofs.Facts.{matrix_made}
use Rattle.day_requests.specs.Refusal.{same_shape, is_vector, read_refusal}
use Rattle.day_requests.specs.Ready.{Pair, Readable}
use Rattle.day_grids.specs.Day.{shown_from}
use Rattle.day_folds.specs.Folding.{lent_fold}
use Rattle.day_calls.specs.Calls.{through_answer}
use Rattle.day_claims.specs.Plain.{cell_read}

-- an accepted answer of a read, which gives the cell c
pub record ReadAs (a : CellAnswer) (c : Cell) : Type 0 where
  pub code : a.code ≡ 0
  pub cell : cell_read a ≡ c

-- the answer of a cell that was searched gives it
found_of : (c : Cell) (p : ℕ) → ReadAs (found_answer (entry_of c p)) c
found_of None p = record { code = refl; cell = refl }
found_of (Some v) p = record { code = refl; cell = refl }

-- so does the answer of a grid's cell
pub found_read : (g : Grid) (i j : ℕ) → ReadAs (found_answer (entry_at g i j)) (g.cell i j)
unfolding entry_at
found_read g i j = found_of (g.cell i j) (entry_position g i j)

module _ (base day marks : List ℕ) (i j : ℕ) (r : Readable base day marks i j) where
  -- the two tests of shapes hold
  same_holds : same_shape (grid_of base) (grid_of day) ≡ true
  unfolding same_shape
  same_holds = and_both (eq-eqb _ _ r.pair.same_rows) (eq-eqb _ _ r.pair.same_cols)

  vector_holds : is_vector (grid_of marks) (rows base) ≡ true
  unfolding is_vector
  vector_holds =
      and_both (eq-eqb _ _ r.pair.over.one_row)
      (eq-eqb _ _ (r.pair.over.mark_rows ∙ r.pair.same_rows))

  -- so no refusal applies
  none : read_refusal base day marks i j ≡ 0
  unfolding read_refusal
  none =
      let b = matrix_made base r.pair.base_valid in
      let d = matrix_made day r.pair.over.day_valid in
      let m = matrix_made marks r.pair.over.marks_valid in
      rw (b, d, m, lt-leb _ _ r.row, lt-leb _ _ r.col, same_holds, vector_holds)

  -- and the cell is the folded grid's
  pub through_read : ReadAs (through_answer base day marks i j) ((lent_fold base day marks).cell i j)
  unfolding through_answer
  through_read = rw none (found_read (shown_from (grid_of base) (grid_of day) (grid_of marks) i) i j)

-- a cell of a pair that fits together can be read
pub readable : {base day marks : List ℕ} {i j : ℕ} → Pair base day marks → i < rows base → j < cols base
    → Readable base day marks i j
readable p l m = record { pair = p; row = l; col = m }
