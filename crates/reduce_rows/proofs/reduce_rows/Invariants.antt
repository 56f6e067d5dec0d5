-- `reduce_rows` leaves the totals of the rows: those of the rows before j are written.
use Rattle.reduce_rows.proofs.Reducing.{Reducing}
use Rattle.reduce_rows.proofs.reduce_rows.Given as goal

abbrev pub invariant-loop-j : goal.invariant-loop-j
invariant-loop-j l = Reducing l.m l.words l.initial.oc l.initial.ov l.oc l.ov l.j l.e
