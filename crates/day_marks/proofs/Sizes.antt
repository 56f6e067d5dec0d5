-- How many words the marks take with one more.
use Rattle.std.proofs.Common.{None, Some}
use Prim.Native.Nat.{ℕ, ◌+◌}
use native.Mathlib.Omega.{arith}
use mathlib.Core.Path.{◌≡◌, refl, ap}
use mathlib.Core.List.{List}
use Rattle.grid.specs.Cell.{Cell}
use Rattle.grid.specs.declared.EntryAt.{EntryAt}
use Rattle.grid.specs.Entries.{column}
use Rattle.grid.specs.Position.{entry_position, entry_of, entry_at}
use Rattle.matrix.specs.Layout.{rows, cols, size, cell_of, grid_of}
use Rattle.encoding.specs.Encode.{grid_size}
use Rattle.encoding.proofs.Canonical.{valid_entries}
use Rattle.edits.proofs.Around.{cell_count, around, around_length, changed_here, changed_other}
use Rattle.edits.proofs.Place.{in_valid}
use Rattle.day_grids.specs.Day.{rewritten_marks}
use Rattle.day_marks.specs.Marks.{Vector, mark_words}
use Rattle.day_marks.proofs.Marks.{in_vector}

-- two words for a mark that is missing, none for one that is there
words_of_lem : (c : Cell) (p : ℕ) → mark_words (entry_of c p) + cell_count c + cell_count c ≡ 2
words_of_lem None p = refl
words_of_lem (Some v) p = refl

-- the marks with one for row i: what the test of their buffer counts
pub marks_size : {s : List ℕ} {i : ℕ} {e : EntryAt} → Vector s i → e ≡ entry_at (grid_of s) 0 i
    → grid_size (rewritten_marks (grid_of s) i) ≡ size s + mark_words e
unfolding entry_at
marks_size {s} {i} {e} v h =
    let m = in_vector v in
    let w = around column (cols s) (cell_of s) 0 i (rows s) m.row m.col in
    omega (
      arith,
      around_length column w (cell_of s) (λ r c f. refl),
      around_length column w (rewritten_marks (grid_of s) i).cell (changed_other (grid_of s) 0 i (Some 1)),
      ap cell_count (changed_here (grid_of s) 0 i (Some 1)),
      valid_entries s (in_valid m),
      ap mark_words h,
      words_of_lem (cell_of s 0 i) (entry_position (grid_of s) 0 i),
    )
