-- `add_rows` adds up the rows that the entries name: those of the entries before p are added.
use Rattle.matrix.specs.Layout.{rows, cell_of}
use Rattle.products.proofs.Summing.{Summing}
use Rattle.products.proofs.add_rows.Given as goal

abbrev pub invariant-loop-p : goal.invariant-loop-p
invariant-loop-p l =
    Summing l.monoid l.op (rows l.b) l.columns l.values (cell_of l.b) l.marks l.cells l.p
