-- The cases of `read_answer`, as the code reaches them.
use Prim.Native.Nat.{ℕ, ◌≤◌, ◌<◌}
use mathlib.Core.Path.{◌≡◌}
use mathlib.Core.List.{List}
use mathlib.Core.Bool.{true, false}
use borrow.Author.Tests.{lt-ltb, le-ltb}
use Rattle.answers.specs.Refusals.{invalid_first, index_out_of_bounds}
use Rattle.conditions.specs.Tests.{◌and◌}
use Rattle.grid.specs.Position.{entry_at}
use Rattle.matrix.specs.Layout.{rows, cols, grid_of}
use Rattle.matrix.specs.Valid.{valid}
use Rattle.answers.specs.Reads.{found_answer, refused_read}
use Rattle.cells.specs.Read.{read_answer}

module _ (s : List ℕ) (i j : ℕ) where
  pub read_invalid : valid s ≡ false → refused_read invalid_first ≡ read_answer s i j
  unfolding read_answer
  read_invalid v = rw v

  pub read_past_rows : valid s ≡ true → rows s ≤ i → refused_read index_out_of_bounds ≡ read_answer s i j
  unfolding read_answer ◌and◌
  read_past_rows v h = rw (v, le-ltb _ _ h)

  pub read_past_cols : valid s ≡ true → i < rows s → cols s ≤ j → refused_read index_out_of_bounds ≡ read_answer s i j
  unfolding read_answer ◌and◌
  read_past_cols v h k = rw (v, lt-ltb _ _ h, le-ltb _ _ k)

  pub read_found : valid s ≡ true → i < rows s → j < cols s → found_answer (entry_at (grid_of s) i j) ≡ read_answer s i j
  unfolding read_answer ◌and◌
  read_found v h k = rw (v, lt-ltb _ _ h, lt-ltb _ _ k)
