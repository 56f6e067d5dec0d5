-- `ostrubel_store_read_cell` answers what `store_cells::read_cell` does.
use Rattle.exports.proofs.Codes.{store_read_small}
use Rattle.exports.proofs.ostrubel_store_read_cell.Goals as goal

pub pack_cell-requires : goal.pack_cell-requires
pack_cell-requires c = store_read_small _ _ _ _ _ c.read_cell.ensures
