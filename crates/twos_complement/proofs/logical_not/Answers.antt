-- `logical_not` gives the word of `not_ℤ`.
use Rattle.std.proofs.Common.{◌∙◌}
use Rattle.twos_complement.proofs.Values.{not_is}
use Rattle.twos_complement.proofs.logical_not.Goals as goal

pub returns : goal.returns
returns c = c.from.ensures ∙ not_is c.args.x c.ranges.x.fits
