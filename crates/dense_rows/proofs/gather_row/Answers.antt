-- `gather_row` leaves the marked places in the buffers: those before j are written.
use Rattle.dense_rows.proofs.Cells.{dense_unmarked, dense_marked}
use Rattle.dense_rows.proofs.Gathering.{gathering_start, gathering_put, gathering_skip}
use Rattle.dense_rows.proofs.gather_row.Goals as goal
use Rattle.dense_rows.proofs.gather_row.Goals.{else-marks-j-ne0, then-marks-j-ne0}

pub loop-j-init : goal.loop-j-init
loop-j-init c = gathering_start _ _ _ _

pub loop-j-preserved : goal.loop-j-preserved
loop-j-preserved c =
    let h = c.loop-j.invariant in
    let here = c.loop-j-test.true in
    elim c.if-marks-j-ne0.branch [
      | then-marks-j-ne0 w ↦ rw (w.oc-is, w.ov-is, w.e-is)
          (gathering_put h here c.requires.1 c.requires.2 (dense_marked _ _ _ w.if-marks-j-ne0.true))
      | else-marks-j-ne0 w ↦ rw (w.oc-is, w.ov-is, w.e-is)
          (gathering_skip h here (dense_unmarked _ _ _ w.if-marks-j-ne0.false))
    ]
