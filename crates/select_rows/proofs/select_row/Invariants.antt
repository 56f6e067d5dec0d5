-- `select_row` leaves the row that select gives: those entries before p that are kept are written.
use Rattle.select_rows.proofs.Selecting.{Selecting}
use Rattle.select_rows.proofs.select_row.Given as goal

abbrev pub invariant-loop-p : goal.invariant-loop-p
invariant-loop-p l = Selecting l.places l.op l.i l.columns l.values l.initial.oc l.initial.ov l.oc l.ov l.p l.e
