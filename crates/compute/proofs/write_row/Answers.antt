-- `write_row` is a row of the final C.
use Rattle.result_rows.proofs.Inputs.{matrix_row, matrix_span}
use Rattle.compute.proofs.WriteRow.{mask_row, written_row_lem, quiet_row}
use Rattle.compute.proofs.write_row.Goals as goal

pub both_empty-requires : goal.both_empty-requires
both_empty-requires c =
    record {
      header = c.requires.old_row.matrix.header;
      span = matrix_span _ c.requires.old_row.matrix _ c.requires.old_row.row;
    }

pub returns-then-both_empty : goal.returns-then-both_empty
returns-then-both_empty c =
    let a = c.args in
    let e = c.both_empty.ensures c.if-both_empty.true in
    quiet_row a.w a.mask.now a.c.now a.tc.now a.tv.now _ _ a.i _ e.0 e.1

pub col_count-requires : goal.col_count-requires
col_count-requires c = c.requires.old_row.matrix.header

pub mask_row-requires : goal.mask_row-requires
mask_row-requires c = c.requires.old_row.mask

pub row_columns-requires : goal.row_columns-requires
row_columns-requires c =
    (c.requires.old_row.matrix.header, matrix_span _ c.requires.old_row.matrix _ c.requires.old_row.row)

pub row_values-requires : goal.row_values-requires
row_values-requires c =
    (c.requires.old_row.matrix.header, matrix_span _ c.requires.old_row.matrix _ c.requires.old_row.row)

pub merge_row-requires : goal.merge_row-requires
merge_row-requires c =
    rw c.col_count.ensures record {
      row = rw (c.mask_row.ensures.columns, c.mask_row.ensures.values)
          (mask_row _ _ _ _ c.requires.old_row.mask c.requires.old_row.mask_cols);
      row_2 = rw (c.row_columns.ensures.words, c.row_values.ensures.words)
          (matrix_row _ c.requires.old_row.matrix _ c.requires.old_row.row);
      row_3 = c.requires.old_row.result;
      places_in_bounds = c.requires.c_in_bounds;
    }

pub returns : goal.returns
returns c =
    written_row_lem _ _ _ _ _ _ _ _ _ _
    (rw (
      c.mask_row.ensures.columns,
      c.mask_row.ensures.values,
      c.row_columns.ensures.words,
      c.row_values.ensures.words,
      c.col_count.ensures,
    ) at c.merge_row.ensures)
