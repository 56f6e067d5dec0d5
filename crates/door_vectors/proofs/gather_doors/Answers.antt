-- `gather_doors` leaves the doors that opened in the buffers: those before d are written.
use Rattle.dense_rows.proofs.Gathering.{gathering_start, gathering_put, gathering_skip, gathering_done}
use Rattle.door_vectors.specs.Vectors.{round_at}
use Rattle.door_vectors.proofs.Vectors.{round_shut, round_open}
use Rattle.door_vectors.proofs.gather_doors.Goals as goal
use Rattle.door_vectors.proofs.gather_doors.Goals.{then-door-ne0, else-door-ne0}

pub loop-d-init : goal.loop-d-init
loop-d-init c = gathering_start _ (round_at _) _ _

pub loop-d-preserved : goal.loop-d-preserved
loop-d-preserved c =
    elim c.if-door-ne0.branch [
      | then-door-ne0 w ↦
          rw (w.oc-is, w.ov-is, w.e-is)
          (gathering_put c.loop-d.invariant c.loop-d-test.true c.requires.long_cols c.requires.long_vals
          (round_open _ _ w.if-door-ne0.true))
      | else-door-ne0 w ↦
          rw (w.oc-is, w.ov-is, w.e-is)
          (gathering_skip c.loop-d.invariant c.loop-d-test.true (round_shut _ _ w.if-door-ne0.false))
    ]

pub returns : goal.returns
returns c = gathering_done c.loop-d.invariant c.loop-d-test.false
