-- `keep_unlisted` keeps the old row at the columns that the list does not name, or nothing under an accumulator.
use Rattle.std.proofs.Common.{None}
use mathlib.Core.Path.{refl}
use Rattle.assign_rows.proofs.Keeping.{none_kept}
use Rattle.assign_rows.proofs.keep_unlisted.Goals as goal

pub returns-in-None : goal.returns-in-None
returns-in-None c = rw c.in-None.is c.add_unlisted.ensures

pub returns-in-Some : goal.returns-in-Some
returns-in-Some c =
    rw c.in-Some.is
    (none_kept c.args.inverse.now _ _ c.requires.tracked c.requires.only_listed (λ j. None) (λ j. refl))
