-- `advance` stages one more row, or finds too many entries.
use native.Mathlib.Omega.{arith}
use mathlib.Core.Path.{sym}
use Rattle.formula_steps.proofs.Rows.{
  row_inputs,
  row_buffers,
  columns_length,
  values_length,
  columns_fit,
  values_fit,
  next_fits,
  advanced_full,
  row_bounds,
  advanced_more,
}
use Rattle.formula_steps.proofs.advance.Goals as goal

pub row_of-m-requires : goal.row_of-m-requires
row_of-m-requires c =
    record {
      row_inputs = row_inputs c.requires.staging c.requires.row;
      buffers = row_buffers c.requires.staging;
      space = omega (arith, c.requires.staging.space);
    }

pub overflow_add-next : goal.overflow_add-next
overflow_add-next c = next_fits c.requires.staging c.requires.row c.row_of-m.ensures

pub returns-then-next : goal.returns-then-next
returns-then-next c =
    advanced_full c.requires.staging c.requires.row c.row_of-m.ensures c.if-next.true _ _ _

pub slice_bounds-stage_row-count : goal.slice_bounds-stage_row-count
slice_bounds-stage_row-count c = omega (arith, c.requires.staging.space)

pub slice_bounds-stage_row-start : goal.slice_bounds-stage_row-start
slice_bounds-stage_row-start c = omega (arith, c.requires.staging.space)

pub slice_bounds-stage_row-end-2 : goal.slice_bounds-stage_row-end-2
slice_bounds-stage_row-end-2 c = columns_fit c.requires.staging c.requires.row c.row_of-m.ensures

pub slice_bounds-stage_row-end-3 : goal.slice_bounds-stage_row-end-3
slice_bounds-stage_row-end-3 c = sym (columns_length c.requires.staging c.requires.row c.row_of-m.ensures)

pub slice_bounds-stage_row-end-4 : goal.slice_bounds-stage_row-end-4
slice_bounds-stage_row-end-4 c = values_fit c.requires.staging c.requires.row c.row_of-m.ensures

pub slice_bounds-stage_row-end-5 : goal.slice_bounds-stage_row-end-5
slice_bounds-stage_row-end-5 c = sym (values_length c.requires.staging c.requires.row c.row_of-m.ensures)

pub stage_row-requires : goal.stage_row-requires
stage_row-requires c = row_bounds c.requires.staging c.requires.row c.row_of-m.ensures c.if-next.false

pub returns : goal.returns
returns c =
    advanced_more c.requires.staging c.requires.row c.row_of-m.ensures c.if-next.false _
    c.stage_row.ensures c.stage_row.auto.work c.row_of-m.auto.tc c.row_of-m.auto.tv
