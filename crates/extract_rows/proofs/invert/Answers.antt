-- `invert` leaves the inverse: the places before j stand at their columns.
use Rattle.extract_rows.proofs.Inverting.{inverse_none, inverse_step}
use Rattle.extract_rows.proofs.invert.Goals as goal

pub loop-j-init : goal.loop-j-init
loop-j-init c = inverse_none _ c.requires.zeros

pub loop-j-preserved : goal.loop-j-preserved
loop-j-preserved c = inverse_step c.requires.indices c.loop-j.invariant c.loop-j-test.true
