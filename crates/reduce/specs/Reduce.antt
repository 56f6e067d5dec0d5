-- What reducing a whole matrix answers: 2 before 3, and "0 and the number" where neither applies.
use Rattle.std.specs.Prelude.{ℕ, List, cond, None, Option, Some}
use Rattle.answers.specs.Answers.{NumberAnswer}
use Rattle.answers.specs.Refusals.{unknown_operator, invalid_first}
use Rattle.answers.specs.Numbers.{number_answer, refused_number}
use Rattle.operators.specs.declared.Monoid.{Monoid}
use Rattle.operator_codes.specs.Codes.{monoid_numbered}
use Rattle.matrix.specs.Layout.{grid_of}
use Rattle.matrix.specs.Valid.{valid}
use Rattle.reductions.specs.Reductions.{grid_total}

-- 3: "a lone sheet to check or read counts as the first"
abbrev pub total_answer : Monoid → List ℕ → NumberAnswer
total_answer m s = cond (valid s) (number_answer (grid_total m (grid_of s))) (refused_number invalid_first)

-- 2: "no such .. monoid"
abbrev pub answer_by : Option Monoid → List ℕ → NumberAnswer
answer_by (Some m) s = total_answer m s
answer_by None s = refused_number unknown_operator

unfoldable pub reduce_answer : List ℕ → ℕ → NumberAnswer
reduce_answer s monoid = answer_by (monoid_numbered monoid) s
