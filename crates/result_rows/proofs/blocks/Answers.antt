-- `blocks` is a row of the Kronecker product.
use Rattle.matrix.specs.Layout.{cell_of}
use Rattle.operations.proofs.Blocks.{block_below, place_below}
use Rattle.result_rows.proofs.Inputs.{matrix_row, matrix_span}
use Rattle.result_rows.proofs.blocks.Goals as goal

pub row_columns-requires : goal.row_columns-requires
row_columns-requires c =
    let p = c.requires.block_inputs in
    rw c.row_count-height.ensures (p.first.header, matrix_span _ p.first _ (block_below _ _ _ p.row))

pub row_values-requires : goal.row_values-requires
row_values-requires c =
    let p = c.requires.block_inputs in
    rw c.row_count-height.ensures (p.first.header, matrix_span _ p.first _ (block_below _ _ _ p.row))

pub row_columns-requires-2 : goal.row_columns-requires-2
row_columns-requires-2 c =
    let p = c.requires.block_inputs in
    rw c.row_count-height.ensures (p.second.header, matrix_span _ p.second _ (place_below _ _ _ p.row))

pub row_values-requires-2 : goal.row_values-requires-2
row_values-requires-2 c =
    let p = c.requires.block_inputs in
    rw c.row_count-height.ensures (p.second.header, matrix_span _ p.second _ (place_below _ _ _ p.row))

pub kronecker_row-requires : goal.kronecker_row-requires
kronecker_row-requires c =
    let p = c.requires.block_inputs in
    rw (
      c.col_count.ensures,
      c.col_count-2.ensures,
      c.row_columns.ensures.words,
      c.row_values.ensures.words,
      c.row_columns-2.ensures.words,
      c.row_values-2.ensures.words,
      c.row_count-height.ensures,
    )
    record {
      blocks_le_max_cols_1 = (p.first.header.col_range.most, p.second.header.col_range.most);
      blocks_le_max_cols_2 = matrix_row _ p.first _ (block_below _ _ _ p.row);
      blocks_le_max_cols_3 = matrix_row _ p.second _ (place_below _ _ _ p.row);
      places_in_bounds = c.requires.b_in_bounds;
    }

pub returns : goal.returns
unfolding cell_of
returns c =
    rw (
      c.col_count.ensures,
      c.col_count-2.ensures,
      c.row_columns.ensures.words,
      c.row_values.ensures.words,
      c.row_columns-2.ensures.words,
      c.row_values-2.ensures.words,
      c.row_count-height.ensures,
    ) at c.kronecker_row.ensures
