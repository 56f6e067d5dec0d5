-- `shape_of` reads the rows and the columns.
use Rattle.formula_steps.proofs.shape_of.Goals as goal

pub returns : goal.returns
returns c = rw (c.row_count.ensures, c.col_count.ensures)
