-- `sum_entries` adds x times the row: the entries before p are added.
use Rattle.bit_rows.specs.Bits.{flagged}
use Rattle.products.proofs.ByEntries.{Placing}
use Rattle.products.proofs.by_entries.sum_entries.Given as goal

abbrev pub invariant-loop-p : goal.invariant-loop-p
invariant-loop-p l =
    Placing l.monoid l.op l.x l.columns l.values (flagged l.initial.map l.initial.sums) l.initial.sums l.used l.map
    l.sums l.p
