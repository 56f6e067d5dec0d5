-- `put_rows` appends the lines of all rows: after i turns those of the first i.
use Rattle.append.specs.Appended.{Appended}
use Rattle.text.proofs.Room.{text_to}
use Rattle.text.proofs.put_rows.Given as goal

abbrev pub invariant-loop-i : goal.invariant-loop-i
invariant-loop-i l = Appended (text_to l.words l.i) l.initial.out l.out l.from l.at
