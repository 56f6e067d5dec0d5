-- `write_back_cell` gives `write_back`: Z inside the mask, and the old cell or none outside.
use Rattle.operations.specs.WriteBacks.{write_back}
use Rattle.merge.proofs.write_back_cell.Goals as goal

pub returns-then-inside_mask : goal.returns-then-inside_mask
unfolding write_back
returns-then-inside_mask c = rw (← c.inside_mask.ensures, c.if-inside_mask.true) c.accumulate.ensures

pub returns-then-w : goal.returns-then-w
unfolding write_back
returns-then-w c = rw (← c.inside_mask.ensures, c.if-inside_mask.false, c.if-w.true)

pub returns-else-w : goal.returns-else-w
unfolding write_back
returns-else-w c = rw (← c.inside_mask.ensures, c.if-inside_mask.false, c.if-w.false)
