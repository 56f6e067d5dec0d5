-- `reduce_by` answers 3 or the total.
use mathlib.Core.Path.{sym}
use Rattle.matrix.proofs.Facts.{matrix_facts}
use Rattle.reduce.proofs.reduce_by.Goals as goal

pub total_of-requires : goal.total_of-requires
total_of-requires c = matrix_facts _ (sym c.if-is_valid.ensures)
