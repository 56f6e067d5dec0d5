-- `place_row` puts the entries of row i into the next slots of their columns: after k turns, the first k of them.
use Rattle.matrix.specs.Layout.{grid_of}
use Rattle.operations.specs.GridOperations.{transposed}
use Rattle.transpose.proofs.Placing.{Placing}
use Rattle.transpose.proofs.place_row.Given as goal

abbrev pub invariant-loop-k : goal.invariant-loop-k
invariant-loop-k l =
    Placing (transposed (grid_of l.a)) l.i l.columns l.initial.next l.initial.sections l.next l.sections l.k
