-- `write_applied` leaves T of apply.
use Rattle.plain_results.proofs.Applied.{written_made}
use Rattle.plain_results.proofs.write_applied.Goals as goal

pub returns : goal.returns
returns c =
    written_made c.args.op c.requires.by_value c.args.a.now c.args.work.now c.requires.input c.requires.space _ _ _
    c.row_count-rows.ensures c.entry_count-n.ensures c.col_count-cols.ensures _ _ _
    c.copy_into.ensures c.apply_values.ensures c.write_header.ensures
