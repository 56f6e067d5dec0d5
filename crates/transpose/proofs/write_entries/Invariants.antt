-- `write_entries` writes the sections of columns and values: after i turns, the entries of the first i rows.
use Rattle.matrix.specs.Layout.{grid_of}
use Rattle.operations.specs.GridOperations.{transposed}
use Rattle.transpose.proofs.Sections.{RowsPlaced}
use Rattle.transpose.proofs.write_entries.Given as goal

abbrev pub invariant-loop-i : goal.invariant-loop-i
invariant-loop-i l = RowsPlaced (transposed (grid_of l.a)) l.n l.initial.next l.next l.sections l.i
