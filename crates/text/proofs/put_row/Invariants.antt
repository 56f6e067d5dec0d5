-- `put_row` appends the lines of a row: after k turns those of its first k entries.
use lib.ListN.{length}
use Rattle.append.specs.Appended.{Appended}
use Rattle.text.specs.Lines.{lines_to}
use Rattle.text.proofs.put_row.Given as goal

abbrev pub invariant-loop-column : goal.invariant-loop-column
invariant-loop-column l = Appended (lines_to l.i l.columns l.values (length l.yielded)) l.initial.out l.out l.from l.at
