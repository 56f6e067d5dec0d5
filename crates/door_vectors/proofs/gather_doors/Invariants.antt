-- `gather_doors` leaves the doors that opened in the buffers: those before d are written.
use lib.ListN.{length}
use Rattle.dense_rows.proofs.Gathering.{Gathering}
use Rattle.door_vectors.specs.Vectors.{round_at}
use Rattle.door_vectors.proofs.gather_doors.Given as goal

abbrev pub invariant-loop-d : goal.invariant-loop-d
invariant-loop-d l = Gathering (length l.doors) (round_at l.doors) l.initial.oc l.initial.ov l.oc l.ov l.e l.d
