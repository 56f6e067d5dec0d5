-- `assigned` is a row of assign.
use native.Mathlib.Omega.{arith}
use Rattle.result_rows.proofs.Inputs.{matrix_row, matrix_span}
use Rattle.result_rows.proofs.AssignRows.{place_within, named, first_row, unlisted_holds, listed_holds}
use Rattle.result_rows.proofs.assigned.Goals as goal

pub bounds-b-i : goal.bounds-b-i
bounds-b-i c = omega (arith, place_within c.requires.assign_inputs)

pub row_columns-requires : goal.row_columns-requires
row_columns-requires c =
    let p = c.requires.assign_inputs in
    (p.output.header, matrix_span _ p.output _ p.row)

pub row_values-requires : goal.row_values-requires
row_values-requires c =
    let p = c.requires.assign_inputs in
    (p.output.header, matrix_span _ p.output _ p.row)

pub unlisted_row-requires : goal.unlisted_row-requires
unlisted_row-requires c =
    rw (c.col_count.ensures, c.row_columns.ensures.words, c.row_values.ensures.words)
    record {
      row = matrix_row _ c.requires.assign_inputs.output _ c.requires.assign_inputs.row;
      places_in_bounds = c.requires.c_in_bounds;
    }

pub returns-then-place-eq0 : goal.returns-then-place-eq0
returns-then-place-eq0 c =
    rw (← c.col_count.ensures)
    (unlisted_holds c.requires.assign_inputs c.args.accumulator c.if-place-eq0.true
    (rw (← c.row_columns.ensures.words, ← c.row_values.ensures.words) c.unlisted_row.ensures))

pub overflow_cast-row : goal.overflow_cast-row
overflow_cast-row c =
    let p = c.requires.assign_inputs in
    omega (arith, (named p c.if-place-eq0.false).below, p.rows_listed.indices.few)

pub row_columns-requires-2 : goal.row_columns-requires-2
row_columns-requires-2 c =
    let p = c.requires.assign_inputs in
    (p.first.header, matrix_span _ p.first _ (named p c.if-place-eq0.false).first)

pub row_values-requires-2 : goal.row_values-requires-2
row_values-requires-2 c =
    let p = c.requires.assign_inputs in
    (p.first.header, matrix_span _ p.first _ (named p c.if-place-eq0.false).first)

pub row_columns-requires-3 : goal.row_columns-requires-3
row_columns-requires-3 c =
    let p = c.requires.assign_inputs in
    (p.output.header, matrix_span _ p.output _ p.row)

pub row_values-requires-3 : goal.row_values-requires-3
row_values-requires-3 c =
    let p = c.requires.assign_inputs in
    (p.output.header, matrix_span _ p.output _ p.row)

pub assign_row-requires : goal.assign_row-requires
assign_row-requires c =
    let p = c.requires.assign_inputs in
    rw (
      c.col_count-2.ensures,
      c.row_columns-2.ensures.words,
      c.row_values-2.ensures.words,
      c.row_columns-3.ensures.words,
      c.row_values-3.ensures.words,
    )
    record {
      places_le_max_cols_1 = p.output.header.col_range.most;
      places_le_max_cols_2 = first_row p _ (named p c.if-place-eq0.false).first;
      places_le_max_cols_3 = matrix_row _ p.output _ p.row;
      places_le_max_cols_4 = p.cols_listed;
      places_in_bounds = c.requires.c_in_bounds;
    }

pub returns : goal.returns
returns c =
    rw (← c.col_count-2.ensures)
    (listed_holds c.requires.assign_inputs c.args.accumulator (named c.requires.assign_inputs c.if-place-eq0.false)
    (rw (
      ← c.row_columns-2.ensures.words,
      ← c.row_values-2.ensures.words,
      ← c.row_columns-3.ensures.words,
      ← c.row_values-3.ensures.words,
    )
    c.assign_row.ensures))
