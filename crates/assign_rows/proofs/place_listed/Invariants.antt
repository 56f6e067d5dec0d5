-- `place_listed` puts the entries of A's row at their columns: those before p stand there.
use Rattle.assign_rows.proofs.Placing.{Placing}
use Rattle.assign_rows.proofs.place_listed.Given as goal

abbrev pub invariant-loop-p : goal.invariant-loop-p
invariant-loop-p l = Placing l.list l.columns l.values l.initial.ov l.top l.map l.ov l.p
