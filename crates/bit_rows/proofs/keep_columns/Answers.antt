-- `keep_columns`: the words before w have what is let through, and the others are as they were.
use Rattle.bit_rows.proofs.Keeping.{keeping_done}
use Rattle.bit_rows.proofs.keep_columns.Goals as goal

pub returns : goal.returns
returns c = keeping_done c.loop-w.invariant c.requires c.loop-w-test.false
