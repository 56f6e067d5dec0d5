-- `row_length` counts the columns of the row that is shown.
use Rattle.day_folds.proofs.Shown.{shown_matrix, shown_span, shown_few}
use Rattle.day_folds.proofs.row_length.Goals as goal

pub row_columns-requires : goal.row_columns-requires
row_columns-requires c =
    rw c.shown-source.ensures
    ((shown_matrix c.requires.pair c.args.i).header, shown_span c.requires.pair c.args.i c.requires.row)

pub returns-clause-within : goal.returns-clause-within
returns-clause-within c =
    rw (c.row_columns.ensures.words, c.shown-source.ensures) (shown_few c.requires.pair c.args.i c.requires.row)
