-- `stage_rows` stages the rows one after the other: before a turn the first i.
use Rattle.results.proofs.Staged.{staged_none}
use Rattle.day_folds.proofs.stage_rows.Goals as goal

pub loop-i-init : goal.loop-i-init
loop-i-init c = staged_none _ _
