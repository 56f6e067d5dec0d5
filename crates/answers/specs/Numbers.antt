-- What the reduction of a whole matrix answers (document 02, A4: "this returns 0 and the number").
use Rattle.std.specs.Prelude.{ℕ}
use Rattle.answers.specs.Answers.{NumberAnswer}

-- the number is kept as its word in two's complement
abbrev pub number_answer : ℕ → NumberAnswer
number_answer v = record { code = 0; value = v }

-- "A refusal returns its number and 0."
abbrev pub refused_number : ℕ → NumberAnswer
refused_number code = record { code = code; value = 0 }
