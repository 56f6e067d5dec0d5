-- The cases of `create_answer` and `create_words`, as the code reaches them.
use Prim.Native.Nat.{ℕ, ◌≤◌, ◌<◌}
use mathlib.Core.Path.{◌≡◌}
use mathlib.Core.List.{List, ◌++◌}
use mathlib.Core.Bool.{true, false}
use lib.ListN.{length, drop}
use borrow.Author.Tests.{le-leb, lt-leb}
use Rattle.limits.specs.Limits.{max_rows, max_cols}
use Rattle.answers.specs.Refusals.{accepted, refused, invalid_shape, insufficient_space}
use Rattle.conditions.specs.Tests.{◌and◌}
use Rattle.grid.specs.Grid.{empty_grid}
use Rattle.matrix.specs.Layout.{size_of}
use Rattle.matrix.specs.Valid.{in_range}
use Rattle.encoding.specs.Encode.{encode}
use Rattle.create.specs.Create.{create_answer, create_words, Created}
use Rattle.grid.proofs.Counts.{empty_count}

module _ (w : List ℕ) (r c : ℕ) where
  pub rows_refused : in_range max_rows r ≡ false → Created w r c (refused invalid_shape) w
  unfolding create_answer create_words ◌and◌
  rows_refused h = record { answer_is = rw h; words_are = rw h }

  pub cols_refused : in_range max_rows r ≡ true → in_range max_cols c ≡ false
      → Created w r c (refused invalid_shape) w
  unfolding create_answer create_words ◌and◌
  cols_refused h k = record { answer_is = rw (h, k); words_are = rw (h, k) }

  pub space_refused : in_range max_rows r ≡ true → in_range max_cols c ≡ true → length w < size_of r 0
      → Created w r c (refused insufficient_space) w
  unfolding create_answer create_words ◌and◌
  space_refused h k l =
      let e = lt-leb _ _ l in
      record { answer_is = rw (h, k, empty_count r c, e); words_are = rw (h, k, empty_count r c, e) }

  pub created : in_range max_rows r ≡ true → in_range max_cols c ≡ true → size_of r 0 ≤ length w
      → (w' : List ℕ) → w' ≡ encode (empty_grid r c) ++ drop (size_of r 0) w → Created w r c (accepted 0) w'
  unfolding create_answer create_words ◌and◌
  created h k l w' e =
      let f = le-leb _ _ l in
      record { answer_is = rw (h, k, empty_count r c, f); words_are = rw (h, k, empty_count r c, f) e }
