-- `call_of` puts a call together.
use Rattle.std.proofs.Common.{rules}
use Rattle.conditions.specs.Tests.{◌and◌}
use Rattle.call_codes.proofs.call_of.Goals as goal
use Rattle.call_codes.proofs.call_of.Goals.{then-known, else-known}

pub returns : goal.returns
unfolding ◌and◌
returns c =
    elim c.if-known.branch [
      | then-known w ↦ rw (c.accumulator_of.ensures, w.result-is, w.if-known.true, w.accumulator_known.ensures)
      | else-known w ↦ rw (c.accumulator_of.ensures, w.result-is, w.if-known.false)
    ]
