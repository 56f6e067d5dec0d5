-- T of apply, from the input as it is read.
use Rattle.operators.specs.declared.ApplyOp.{ApplyOp}
use Rattle.grid.specs.Grid.{Grid}
use Rattle.operations.specs.CellOperations.{apply_cell}

abbrev pub applied_grid : ApplyOp → Grid → Grid
applied_grid op g = record { rows = g.rows; cols = g.cols; cell = λ i j. apply_cell op i j (g.cell i j) }
