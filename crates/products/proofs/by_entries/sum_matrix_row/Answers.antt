-- `sum_matrix_row` adds x times row k of the matrix: the parts that are lent on are the row's.
use Rattle.matrix.specs.Layout.{cell_of}
use Rattle.products.proofs.by_entries.sum_matrix_row.Goals as goal

pub sum_row-requires : goal.sum_row-requires
sum_row-requires c =
    rw (c.row_columns.ensures.words, c.row_values.ensures.words)
    record {
      row = c.requires.row;
      row_fits = c.requires.row_fits;
      tracked = c.requires.tracked;
    }

pub returns : goal.returns
unfolding cell_of
returns c = rw (c.row_columns.ensures.words, c.row_values.ensures.words) at c.sum_row.ensures
