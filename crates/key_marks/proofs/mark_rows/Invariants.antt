-- `mark_rows` stamps the columns of the rows before i that are named.
use Rattle.key_marks.specs.Marks.{Stamped}
use Rattle.key_marks.proofs.Rows.{before}
use Rattle.key_marks.proofs.mark_rows.Given as goal

abbrev pub invariant-loop-i : goal.invariant-loop-i
invariant-loop-i l = Stamped l.stamp (before l.m l.from l.i) l.initial.marks l.marks
