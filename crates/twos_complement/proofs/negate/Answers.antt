-- `negate` gives the word of the negative: the exceptional value is returned first, and any other has a negative that
-- fits.
use Rattle.std.proofs.Common.{ap, ◌∙◌}
use Rattle.twos_complement.specs.TwosComplement.{word}
use Rattle.twos_complement.proofs.Exception.{negate_smallest, minus_fits, negate_is}
use Rattle.twos_complement.proofs.negate.Goals as goal

pub returns-then-z : goal.returns-then-z
returns-then-z c = negate_smallest c.ranges.x.fits c.to_signed-z.ensures c.if-z.true

pub overflow_sub-z : goal.overflow_sub-z
overflow_sub-z c = minus_fits c.ranges.x.fits c.to_signed-z.ensures c.if-z.false

pub returns : goal.returns
returns c =
    c.from_signed.ensures
    ∙ ap word (negate_is c.ranges.x.fits c.to_signed-z.ensures c.if-z.false)
