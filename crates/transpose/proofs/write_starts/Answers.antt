-- `write_starts` turns counts into starts: after j turns, the first j of them.
use native.Mathlib.Omega.{arith}
use Rattle.transpose.proofs.Sums.{summing_start, summing_small, summing_step}
use Rattle.transpose.proofs.write_starts.Goals as goal

pub loop-j-init : goal.loop-j-init
loop-j-init c = summing_start _ _ _

pub overflow_add-sum : goal.overflow_add-sum
overflow_add-sum c = omega (arith, summing_small c.requires c.loop-j.invariant c.loop-j-test.true)

pub loop-j-preserved : goal.loop-j-preserved
loop-j-preserved c = summing_step c.requires c.loop-j.invariant c.loop-j-test.true
