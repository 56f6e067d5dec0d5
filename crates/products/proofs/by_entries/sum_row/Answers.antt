-- `sum_row` adds x times the row, by the loop for the operators that it has.
use Rattle.products.proofs.by_entries.sum_row.Goals as goal

pub returns-then-is_plus_times : goal.returns-then-is_plus_times
returns-then-is_plus_times c =
    let e = c.is_plus_times.ensures c.if-is_plus_times.true in
    rw (e.0, e.1) c.sum_entries.ensures
