-- `ostrubel_read_cell` answers what `cells::read_cell` does.
use mathlib.Core.Path.{ap, ◌∙◌}
use Rattle.exports.specs.Packing.{packed_cell}
use Rattle.exports.proofs.Codes.{read_small}
use Rattle.exports.proofs.ostrubel_read_cell.Goals as goal

pub pack_cell-requires : goal.pack_cell-requires
pack_cell-requires c = rw c.read_cell.ensures (read_small _ _ _)

pub returns : goal.returns
returns c = c.pack_cell.ensures ∙ ap packed_cell c.read_cell.ensures
