-- `count_columns` counts each column number: after k turns, the first k of them.
use native.Mathlib.Omega.{arith}
use Rattle.transpose.proofs.Occurrences.{counting_start, counting_small, counting_step}
use Rattle.transpose.proofs.count_columns.Goals as goal

pub loop-column-init : goal.loop-column-init
loop-column-init c = counting_start _ _ c.requires

pub overflow_add-counts : goal.overflow_add-counts
overflow_add-counts c =
    omega (arith, counting_small c.loop-column.invariant _ (c.requires.small _ c.loop-column-test.true))

pub loop-column-preserved : goal.loop-column-preserved
loop-column-preserved c = counting_step c.loop-column.invariant c.loop-column-test.true
