-- What reading one cell of a matrix answers: 3 before 7.
use Rattle.std.specs.Prelude.{ℕ, List, cond, ltb}
use Rattle.answers.specs.Answers.{CellAnswer}
use Rattle.answers.specs.Refusals.{invalid_first, index_out_of_bounds}
use Rattle.answers.specs.Reads.{found_answer, refused_read}
use Rattle.conditions.specs.Tests.{◌and◌}
use Rattle.grid.specs.Position.{entry_at}
use Rattle.matrix.specs.Layout.{rows, cols, grid_of}
use Rattle.matrix.specs.Valid.{valid}

-- 3 where the words are no valid matrix, 7 where the row or the column is past it
unfoldable pub read_answer : List ℕ → ℕ → ℕ → CellAnswer
read_answer s i j =
    cond (valid s)
    (cond (ltb i (rows s) and ltb j (cols s)) (found_answer (entry_at (grid_of s) i j)) (refused_read index_out_of_bounds))
    (refused_read invalid_first)
