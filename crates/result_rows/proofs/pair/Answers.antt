-- `pair` is a row of the intersection or the union.
use native.Mathlib.Omega.{arith}
use Rattle.rows.specs.Row.{lookup}
use Rattle.matrix.specs.Layout.{cell_of}
use Rattle.result_rows.proofs.Inputs.{matrix_row, matrix_span, empty_row}
use Rattle.result_rows.proofs.pair.Goals as goal

pub col_count-requires : goal.col_count-requires
col_count-requires c = c.requires.pair_inputs.first.header

pub row_columns-requires : goal.row_columns-requires
row_columns-requires c =
    let p = c.requires.pair_inputs in
    (p.first.header, matrix_span _ p.first _ p.row)

pub row_values-requires : goal.row_values-requires
row_values-requires c =
    let p = c.requires.pair_inputs in
    (p.first.header, matrix_span _ p.first _ p.row)

pub row_columns-requires-2 : goal.row_columns-requires-2
row_columns-requires-2 c =
    let p = c.requires.pair_inputs in
    (p.second.header, matrix_span _ p.second _ (omega (arith, p.row, p.same_rows)))

pub row_values-requires-2 : goal.row_values-requires-2
row_values-requires-2 c =
    let p = c.requires.pair_inputs in
    (p.second.header, matrix_span _ p.second _ (omega (arith, p.row, p.same_rows)))

pub merge_row-requires : goal.merge_row-requires
merge_row-requires c =
    let p = c.requires.pair_inputs in
    rw c.col_count.ensures
    record {
      row = empty_row _;
      row_2 = rw (c.row_columns.ensures.words, c.row_values.ensures.words) (matrix_row _ p.first _ p.row);
      row_3 = rw (c.row_columns-2.ensures.words, c.row_values-2.ensures.words, p.same_cols)
          (matrix_row _ p.second _ (omega (arith, p.row, p.same_rows)));
      places_in_bounds = c.requires.a_in_bounds;
    }

pub returns : goal.returns
unfolding cell_of lookup
returns c =
    rw (
      ← c.row_columns.ensures.words,
      ← c.row_values.ensures.words,
      ← c.row_columns-2.ensures.words,
      ← c.row_values-2.ensures.words,
      ← c.col_count.ensures,
    )
    c.merge_row.ensures
