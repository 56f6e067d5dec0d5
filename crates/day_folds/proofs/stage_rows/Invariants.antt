-- `stage_rows` stages the rows one after the other: before a turn the first i.
use Rattle.results.specs.Staging.{Staged}
use Rattle.day_folds.specs.Folding.{lent_fold}
use Rattle.day_folds.proofs.stage_rows.Given as goal

abbrev pub invariant-loop-i : goal.invariant-loop-i
invariant-loop-i l = Staged (lent_fold l.base l.day l.marks) l.i l.n l.work
