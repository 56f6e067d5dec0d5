-- `minimum` gives the word of the smaller number.
use Rattle.std.proofs.Common.{ap, ◌∙◌, w32}
use mir.ValLaws.{to_z-of_z}
use Rattle.twos_complement.specs.TwosComplement.{word}
use Rattle.twos_complement.proofs.Values.{minimum_is}
use Rattle.twos_complement.proofs.minimum.Goals as goal

pub returns : goal.returns
returns c =
    let r = c.min.result in
    c.from_signed.ensures
    ∙ ap word (to_z-of_z w32 r (record { sfits = c.min.type_inv }) ∙ c.min.ensures.value
    ∙ minimum_is c.ranges.x.fits c.ranges.y.fits c.to_signed.ensures c.to_signed-2.ensures)
