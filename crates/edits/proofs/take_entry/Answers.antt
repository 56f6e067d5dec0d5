-- `take_entry` leaves `entry_taken`.
use native.Mathlib.Omega.{arith}
use mathlib.Core.Path.{◌∙◌}
use lib.ListN.{length-set}
use Rattle.edits.proofs.take_entry.Goals as goal

pub bounds-words-r-2 : goal.bounds-words-r-2
bounds-words-r-2 c = simp length-set (omega arith)

pub shape_of-words : goal.shape_of-words
shape_of-words c = simp length-set (c.move_down-2.auto.words ∙ c.move_down.auto.words)

pub returns : goal.returns
returns c = rw (c.move_down-2.ensures, c.move_down.ensures)
