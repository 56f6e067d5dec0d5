-- What the exported calls on a day matrix over a base matrix answer and leave: each call's own definition, with the answer
-- in one number r.
use Rattle.std.specs.Prelude.{ℕ, ◌≡◌, List}
use Rattle.answers.specs.Answers.{Answer}
use Rattle.day_calls.specs.Calls.{Rewritten, TakenBack, Folded}
use Rattle.exports.specs.Packing.{packed}

pub record LentRewritten (day marks : List ℕ) (i : ℕ) (new : List ℕ) (r : ℕ) (day' marks' : List ℕ) : Type 0 where
  pub answer : Answer
  pub packed_is : r ≡ packed answer
  pub done : Rewritten day marks i new answer day' marks'

pub record LentTakenBack (day marks : List ℕ) (i r : ℕ) (day' marks' : List ℕ) : Type 0 where
  pub answer : Answer
  pub packed_is : r ≡ packed answer
  pub done : TakenBack day marks i answer day' marks'

pub record LentFolded (base day marks out : List ℕ) (r : ℕ) (out' : List ℕ) : Type 0 where
  pub answer : Answer
  pub packed_is : r ≡ packed answer
  pub done : Folded base day marks out answer out'
