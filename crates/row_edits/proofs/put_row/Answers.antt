-- `put_row` leaves `row_put`.
use native.Mathlib.Omega.{arith}
use mathlib.Core.Path.{◌∙◌}
use lib.ListN.{length-set}
use Rattle.row_edits.proofs.put_row.Goals as goal

pub bounds-words-r-2 : goal.bounds-words-r-2
bounds-words-r-2 c = simp length-set (omega arith)

pub shape_of-words : goal.shape_of-words
shape_of-words c = simp length-set (c.copy_into-2.auto.dst ∙ c.copy_into.auto.dst)

pub returns : goal.returns
returns c = rw (c.copy_into-2.ensures, c.copy_into.ensures)
