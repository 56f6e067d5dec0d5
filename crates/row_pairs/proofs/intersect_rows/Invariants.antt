-- `intersect_rows` leaves the intersection: before each turn all columns below the two indexes are done.
use Prim.Native.Nat.{◌+◌, ◌-◌}
use lib.ListN.{length}
use Rattle.row_pairs.proofs.Intersecting.{Intersecting}
use Rattle.row_pairs.proofs.intersect_rows.Given as goal

abbrev pub invariant-loop-i : goal.invariant-loop-i
invariant-loop-i l = Intersecting l.op l.places l.ac l.av l.bc l.bv l.initial.oc l.initial.ov l.oc l.ov l.i l.k l.e

abbrev pub decreases-loop-i : goal.decreases-loop-i
decreases-loop-i l = (length l.ac - l.i) + (length l.bc - l.k)
