-- `sum_rows` adds up the rows that the entries name: those of the entries before p are added.
use Rattle.matrix.specs.Layout.{rows, cell_of}
use Rattle.products.proofs.ByEntries.{Totalling}
use Rattle.products.proofs.by_entries.sum_rows.Given as goal

abbrev pub invariant-loop-p : goal.invariant-loop-p
invariant-loop-p l =
    Totalling l.monoid l.op (rows l.b) l.columns l.values (cell_of l.b) l.initial.sums l.top l.map l.sums
    l.p
