-- What laying an empty matrix answers and leaves (document 01: "lay an empty sheet over whatever words the buffer
-- held"; 8 before 11).
use Rattle.std.specs.Prelude.{ℕ, ◌≡◌, List, cond, length, leb}
use Rattle.limits.specs.Limits.{max_rows, max_cols}
use Rattle.answers.specs.Answers.{Answer}
use Rattle.answers.specs.Refusals.{accepted, refused, unless_refused, invalid_shape, insufficient_space}
use Rattle.conditions.specs.Tests.{◌and◌}
use Rattle.grid.specs.Grid.{empty_grid}
use Rattle.grid.specs.Entries.{entry_count}
use Rattle.matrix.specs.Valid.{in_range}
use Rattle.encoding.specs.Encode.{grid_size, written_over}

-- "rows or columns outside 1 to 512" (A6: 1,000): 8; "doesn't fit its buffer": 11; else 0 and the empty grid's entries
unfoldable pub create_answer : List ℕ → ℕ → ℕ → Answer
create_answer w r c =
    cond (in_range max_rows r and in_range max_cols c)
    (cond (leb (grid_size (empty_grid r c)) (length w))
    (accepted (entry_count (empty_grid r c)))
    (refused insufficient_space))
    (refused invalid_shape)

-- the buffer afterwards
unfoldable pub create_words : List ℕ → ℕ → ℕ → List ℕ
create_words w r c = unless_refused (create_answer w r c) w (written_over (empty_grid r c) w)

-- the answer and every word of the buffer
pub record Created (w : List ℕ) (r c : ℕ) (answer : Answer) (w' : List ℕ) : Type 0 where
  pub answer_is : answer ≡ create_answer w r c
  pub words_are : w' ≡ create_words w r c
