-- `extract_row` leaves the listed cells: a row without entries gives none; of any other the entries are put at their
-- places, and what stands there is collected.
use Rattle.extract_rows.proofs.Extracting.{Extracting}
use Rattle.extract_rows.proofs.extract_row.Given as goal

abbrev pub invariant-loop-p : goal.invariant-loop-p
invariant-loop-p l = Extracting l.list l.inverse l.columns l.values l.initial.ov l.top l.map l.ov l.p
