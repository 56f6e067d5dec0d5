-- `keep_columns`: the words before w have what is let through, and the others are as they were.
use Rattle.bit_rows.proofs.Keeping.{Keeping}
use Rattle.bit_rows.proofs.keep_columns.Given as goal

abbrev pub invariant-loop-w : goal.invariant-loop-w
invariant-loop-w l = Keeping l.complement l.marks l.initial.map l.map l.w
