-- `put_entry` leaves `entry_put`.
use native.Mathlib.Omega.{arith}
use mathlib.Core.Path.{◌∙◌}
use lib.ListN.{length-set}
use Rattle.edits.proofs.put_entry.Goals as goal

pub bounds-words-value_at : goal.bounds-words-value_at
bounds-words-value_at c = simp length-set (omega arith)

pub bounds-words-r : goal.bounds-words-r
bounds-words-r c = simp length-set (omega arith)

pub bounds-words-r-2 : goal.bounds-words-r-2
bounds-words-r-2 c = simp length-set (omega arith)

pub shape_of-words : goal.shape_of-words
shape_of-words c = simp length-set (c.move_up-2.auto.words ∙ c.move_up.auto.words)

pub returns : goal.returns
returns c = rw (c.move_up-2.ensures, c.move_up.ensures)
