-- `kronecker_row` leaves the row of the product: the blocks of the entries before p are written.
use Rattle.kronecker_rows.proofs.Blocking.{Blocking}
use Rattle.kronecker_rows.proofs.kronecker_row.Given as goal

abbrev pub invariant-loop-p : goal.invariant-loop-p
invariant-loop-p l = Blocking l.op l.blocks l.places l.ac l.av l.bc l.bv l.initial.oc l.initial.ov l.oc l.ov l.p l.e
