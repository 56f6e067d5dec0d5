-- `absolute` gives the word of the absolute value: a number that is not negative and the exceptional value are returned
-- first, and any other negative number has a negative that fits.
use Rattle.std.proofs.Common.{ap, ◌∙◌}
use Rattle.twos_complement.specs.TwosComplement.{word}
use Rattle.twos_complement.proofs.Exception.{absolute_nonneg, absolute_smallest, minus_fits, absolute_is}
use Rattle.twos_complement.proofs.absolute.Goals as goal

pub returns-then-value-ge0 : goal.returns-then-value-ge0
returns-then-value-ge0 c = absolute_nonneg c.ranges.x.fits c.to_signed-value.ensures c.if-value-ge0.true

pub returns-then-value : goal.returns-then-value
returns-then-value c = absolute_smallest c.ranges.x.fits c.to_signed-value.ensures c.if-value.true

pub overflow_sub-value : goal.overflow_sub-value
overflow_sub-value c = minus_fits c.ranges.x.fits c.to_signed-value.ensures c.if-value.false

pub returns : goal.returns
returns c =
    c.from_signed.ensures
    ∙ ap word
    (absolute_is c.ranges.x.fits c.to_signed-value.ensures c.if-value-ge0.false c.if-value.false)
