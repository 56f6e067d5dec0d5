-- `stage_row` stages the row of the matrix that it is shown from.
use Rattle.day_folds.proofs.Shown.{shown_matrix, shown_span}
use Rattle.day_folds.proofs.Counted.{row_bounds, row_staged}
use Rattle.day_folds.proofs.stage_row.Goals as goal

pub row_columns-columns-requires : goal.row_columns-columns-requires
row_columns-columns-requires c =
    rw c.shown-source.ensures
    ((shown_matrix c.requires.pair c.args.i).header, shown_span c.requires.pair c.args.i c.requires.row)

pub row_values-requires : goal.row_values-requires
row_values-requires c =
    rw c.shown-source.ensures
    ((shown_matrix c.requires.pair c.args.i).header, shown_span c.requires.pair c.args.i c.requires.row)

pub stage_row-requires : goal.stage_row-requires
stage_row-requires c =
    let h = c.requires in
    rw c.row_count-r.ensures
    (row_bounds h.pair _ h.row _ _ _ _ h.few h.space h.staged
    (rw c.shown-source.ensures at c.row_columns-columns.ensures.words)
    (rw c.shown-source.ensures at c.row_values.ensures.words))

pub returns : goal.returns
returns c =
    let h = c.requires in
    rw (c.stage_row.ensures, c.row_count-r.ensures)
    (row_staged h.pair _ h.row _ _ _ _ h.few h.space h.staged
    (rw c.shown-source.ensures at c.row_columns-columns.ensures.words)
    (rw c.shown-source.ensures at c.row_values.ensures.words))
