-- `applied` is a row of apply.
use Rattle.matrix.specs.Layout.{cell_of}
use Rattle.result_rows.proofs.Inputs.{matrix_row, matrix_span}
use Rattle.result_rows.proofs.applied.Goals as goal

pub col_count-requires : goal.col_count-requires
col_count-requires c = c.requires.matrix.header

pub row_columns-requires : goal.row_columns-requires
row_columns-requires c = (c.requires.matrix.header, matrix_span _ c.requires.matrix _ c.requires.row_in)

pub row_values-requires : goal.row_values-requires
row_values-requires c = (c.requires.matrix.header, matrix_span _ c.requires.matrix _ c.requires.row_in)

pub apply_row-requires : goal.apply_row-requires
apply_row-requires c =
    rw c.col_count.ensures
    record {
      fact_1 = rw (c.row_columns.ensures.words, c.row_values.ensures.words)
          (matrix_row _ c.requires.matrix _ c.requires.row_in);
      fact_2 = c.requires.a_in_bounds;
    }

pub returns : goal.returns
unfolding cell_of
returns c =
    rw (
      ← c.row_columns.ensures.words,
      ← c.row_values.ensures.words,
      ← c.col_count.ensures,
    )
    c.apply_row.ensures
