-- `gather_row` leaves the marked places in the buffers: those before j are written.
use Rattle.dense_rows.specs.Dense.{dense}
use Rattle.dense_rows.proofs.Gathering.{Gathering}
use Rattle.dense_rows.proofs.gather_row.Given as goal

abbrev pub invariant-loop-j : goal.invariant-loop-j
invariant-loop-j l = Gathering l.places (dense l.marks l.cells) l.initial.oc l.initial.ov l.oc l.ov l.e l.j
