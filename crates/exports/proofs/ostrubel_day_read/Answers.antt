-- `ostrubel_day_read` answers what `day_calls::read_through` does.
use mathlib.Core.Path.{ap, ◌∙◌}
use Rattle.exports.specs.Packing.{packed_cell}
use Rattle.exports.proofs.Days.{through_small}
use Rattle.exports.proofs.ostrubel_day_read.Goals as goal

pub pack_cell-requires : goal.pack_cell-requires
pack_cell-requires c = rw c.read_through.ensures (through_small _ _ _ _ _)

pub returns : goal.returns
returns c = c.pack_cell.ensures ∙ ap packed_cell c.read_through.ensures
