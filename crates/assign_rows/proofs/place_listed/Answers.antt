-- `place_listed` puts the entries of A's row at their columns: those before p stand there.
use Rattle.assign_rows.proofs.Placing.{placing_start, placing_index, placing_column, placing_step, placing_done}
use Rattle.assign_rows.proofs.place_listed.Goals as goal

pub loop-p-init : goal.loop-p-init
loop-p-init c = placing_start c.requires.row c.requires.indices _ c.requires.no_marks

pub mark_column-top-requires : goal.mark_column-top-requires
mark_column-top-requires c =
    record {
      fact_1 = placing_column c.requires.row c.requires.indices c.loop-p.invariant c.loop-p-test.true;
      fact_2 = c.loop-p.invariant.tracked;
    }

pub loop-p-preserved : goal.loop-p-preserved
loop-p-preserved c =
    let h = c.loop-p.invariant in
    let here = c.loop-p-test.true in
    let listed = placing_index c.requires.row c.requires.indices h here in
    placing_step c.requires.row c.requires.indices h here (c.requires.list_in_bounds _ listed) c.mark_column-top.ensures

pub returns : goal.returns
returns c = placing_done c.requires.row c.requires.indices c.loop-p.invariant c.loop-p-test.false
