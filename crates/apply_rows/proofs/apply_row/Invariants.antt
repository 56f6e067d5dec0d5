-- `apply_row` leaves the row that apply gives: the entries before p are written.
use Rattle.apply_rows.proofs.Applying.{Applying}
use Rattle.apply_rows.proofs.apply_row.Given as goal

abbrev pub invariant-loop-p : goal.invariant-loop-p
invariant-loop-p l = Applying l.places l.op l.i l.columns l.values l.initial.oc l.initial.ov l.oc l.ov l.p
