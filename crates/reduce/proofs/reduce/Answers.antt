-- `reduce` answers by the monoid of the number.
use mathlib.Core.Path.{refl}
use Rattle.reduce.specs.Reduce.{reduce_answer}
use Rattle.reduce.proofs.reduce.Goals as goal

pub returns-in-Some : goal.returns-in-Some
unfolding reduce_answer
returns-in-Some c = rw (← c.monoid_code.ensures, c.in-Some.is) c.reduce_by.ensures

pub returns-in-None : goal.returns-in-None
unfolding reduce_answer
returns-in-None c = rw (← c.monoid_code.ensures, c.in-None.is) refl
