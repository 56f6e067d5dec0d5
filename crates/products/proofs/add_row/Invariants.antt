-- `add_row` adds x times the row: the entries before p are added.
use Rattle.dense_rows.specs.Dense.{dense}
use Rattle.products.proofs.Adding.{Adding}
use Rattle.products.proofs.add_row.Given as goal

abbrev pub invariant-loop-p : goal.invariant-loop-p
invariant-loop-p l =
    Adding l.monoid l.op l.x l.columns l.values (dense l.initial.marks l.initial.cells) l.marks l.cells l.p
