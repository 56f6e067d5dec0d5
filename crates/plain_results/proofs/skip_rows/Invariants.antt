-- `skip_rows` passes over rows without entries, and writes their starts.
use Rattle.matrix.specs.Layout.{rows, grid_of}
use Rattle.operations.specs.GridOperations.{result_grid}
use Rattle.plain_results.specs.Rows.{Skipped}
use Rattle.plain_results.proofs.skip_rows.Given as goal

abbrev pub invariant-loop-i : goal.invariant-loop-i
invariant-loop-i l =
    Skipped (result_grid l.operation (grid_of l.a) (grid_of l.b) (grid_of l.c) l.is l.js) (rows l.c) l.from l.n
    l.initial.starts l.i l.starts
