-- `count_columns` counts each column number: after k turns, the first k of them.
use Rattle.transpose.proofs.Occurrences.{Counting}
use Rattle.transpose.proofs.count_columns.Given as goal

abbrev pub invariant-loop-column : goal.invariant-loop-column
invariant-loop-column l = Counting l.columns l.initial.counts l.counts l.column-index
