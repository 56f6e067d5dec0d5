-- `extracted` is a row of extract.
use Rattle.matrix.specs.Layout.{cell_of}
use Rattle.result_rows.proofs.Inputs.{matrix_row, matrix_span, wider_row}
use Rattle.result_rows.proofs.extracted.Goals as goal

pub row_columns-requires : goal.row_columns-requires
row_columns-requires c =
    (c.requires.list_inputs.first.header, matrix_span _ c.requires.list_inputs.first _ c.requires.list_inputs.listed)

pub row_values-requires : goal.row_values-requires
row_values-requires c =
    (c.requires.list_inputs.first.header, matrix_span _ c.requires.list_inputs.first _ c.requires.list_inputs.listed)

pub extract_row-requires : goal.extract_row-requires
extract_row-requires c =
    record {
      row_1 = rw (c.row_columns.ensures.words, c.row_values.ensures.words)
          (wider_row c.requires.list_inputs.first.header.col_range.most
          (matrix_row _ c.requires.list_inputs.first _ c.requires.list_inputs.listed));
      row_2 = c.requires.list_inputs.indices;
      row_3 = c.requires.list_inputs.inverse;
      list_in_bounds = c.requires.js_in_bounds;
    }

pub returns : goal.returns
unfolding cell_of
returns c =
    rw (← c.row_columns.ensures.words, ← c.row_values.ensures.words) c.extract_row.ensures
