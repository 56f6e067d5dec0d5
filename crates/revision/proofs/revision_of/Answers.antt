-- `revision_of` answers 3 or the revision.
use mathlib.Core.Path.{sym}
use Rattle.matrix.proofs.Facts.{matrix_facts}
use Rattle.revision.proofs.revision_of.Goals as goal

pub revision-requires : goal.revision-requires
revision-requires c = (matrix_facts _ (sym c.if-is_valid.ensures)).header
