-- What the exported call of "keys behind doors" answers and leaves: the call's own definition, with the answer in one
-- number r.
use Rattle.std.specs.Prelude.{ℕ, ◌≡◌, List}
use Rattle.answers.specs.Answers.{Answer}
use Rattle.key_calls.specs.Doors.{Completed}
use Rattle.exports.specs.Packing.{packed}

pub record LentDoors (allowance : ℕ) (locks cabinets hand out work : List ℕ) (r : ℕ) (out' work' : List ℕ)
    : Type 0 where
  pub answer : Answer
  pub packed_is : r ≡ packed answer
  pub done : Completed allowance locks cabinets hand out work answer out' work'
