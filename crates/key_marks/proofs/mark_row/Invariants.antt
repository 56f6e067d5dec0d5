-- `mark_row` stamps the places of the columns so far.
use lib.ListN.{take}
use Rattle.key_marks.specs.Marks.{has, Stamped}
use Rattle.key_marks.proofs.mark_row.Given as goal

abbrev pub invariant-loop-column : goal.invariant-loop-column
invariant-loop-column l = Stamped l.stamp (has (take l.column-index l.columns)) l.initial.marks l.marks
