-- `unlisted_row` leaves the old row, or nothing under an accumulator.
use mathlib.Core.Path.{refl}
use Rattle.rows.proofs.Holds.{holds_absent}
use Rattle.assign_rows.proofs.unlisted_row.Goals as goal

pub returns-in-None : goal.returns-in-None
returns-in-None c = rw c.in-None.is c.copy_row.ensures

pub returns-in-Some : goal.returns-in-Some
returns-in-Some c = rw c.in-Some.is (holds_absent _ _ _ _ (λ j. refl))
