-- `from_signed` gives `word z`.
use Rattle.std.proofs.Common.{◌∙◌, w32}
use mir.ValLaws.{to_z-of_z}
use Rattle.twos_complement.proofs.Casts.{word_bits}
use Rattle.twos_complement.proofs.from_signed.Goals as goal

pub returns : goal.returns
returns c =
    let z = c.args.z in
    c.cast_unsigned.ensures ∙ rw (to_z-of_z w32 z c.ranges.z) (word_bits z c.ranges.z)
