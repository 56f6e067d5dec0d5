-- `to_signed` gives `signed x`.
use Rattle.std.proofs.Common.{◌∙◌}
use Rattle.twos_complement.proofs.Casts.{read_word, read_back}
use Rattle.twos_complement.proofs.to_signed.Goals as goal

pub returns : goal.returns
returns c =
    let h = c.ranges.x.fits in
    read_back h (c.cast_signed.ensures ∙ read_word c.args.x h)
