-- `ostrubel_revision` answers what `revision::revision_of` does.
use mathlib.Core.Path.{ap, ◌∙◌}
use Rattle.exports.specs.Packing.{packed_number}
use Rattle.exports.proofs.Packed.{packed_total}
use Rattle.exports.proofs.ostrubel_revision.Goals as goal

pub returns : goal.returns
returns c = c.pack.ensures ∙ packed_total _ ∙ ap packed_number c.revision_of.ensures
