-- What a look at the revision of a matrix answers.
use Rattle.std.specs.Prelude.{ℕ, List, cond}
use Rattle.answers.specs.Answers.{NumberAnswer}
use Rattle.answers.specs.Refusals.{invalid_first}
use Rattle.answers.specs.Numbers.{number_answer, refused_number}
use Rattle.matrix.specs.Layout.{revision}
use Rattle.matrix.specs.Valid.{valid}

-- A12: "a new first section before the others: 1, then a revision number"; 3: "a lone sheet to check or read counts as the
-- first"
abbrev pub revision_answer : List ℕ → NumberAnswer
revision_answer s = cond (valid s) (number_answer (revision s)) (refused_number invalid_first)
