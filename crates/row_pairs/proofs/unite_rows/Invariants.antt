-- `unite_rows` leaves the union: before each turn all columns below the two indexes are done.
use Prim.Native.Nat.{◌+◌, ◌-◌}
use lib.ListN.{length}
use Rattle.row_pairs.proofs.Uniting.{Uniting}
use Rattle.row_pairs.proofs.unite_rows.Given as goal

abbrev pub invariant-loop-i : goal.invariant-loop-i
invariant-loop-i l = Uniting l.op l.places l.ac l.av l.bc l.bv l.initial.oc l.initial.ov l.oc l.ov l.i l.k l.e

abbrev pub decreases-loop-i : goal.decreases-loop-i
decreases-loop-i l = (length l.ac - l.i) + (length l.bc - l.k)
