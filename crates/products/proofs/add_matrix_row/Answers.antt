-- `add_matrix_row` adds x times row k of the matrix: the parts that are lent on are the row's.
use Rattle.matrix.specs.Layout.{cell_of}
use Rattle.products.proofs.add_matrix_row.Goals as goal

pub add_row-requires : goal.add_row-requires
add_row-requires c =
    record {
      entries = rw (c.row_columns.ensures.words, c.row_values.ensures.words) c.requires.row;
      sized = c.requires.sized;
    }

pub returns : goal.returns
unfolding cell_of
returns c = rw (c.row_columns.ensures.words, c.row_values.ensures.words) at c.add_row.ensures
