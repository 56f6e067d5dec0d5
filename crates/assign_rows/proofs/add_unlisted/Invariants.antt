-- `add_unlisted` keeps the old row at the columns that the list does not name: those entries before p are put.
use Rattle.assign_rows.proofs.Keeping.{Keeping}
use Rattle.assign_rows.proofs.add_unlisted.Given as goal

abbrev pub invariant-loop-p : goal.invariant-loop-p
invariant-loop-p l = Keeping l.places l.inverse l.old_columns l.old_values l.initial.map l.initial.ov l.t l.map l.ov l.p
