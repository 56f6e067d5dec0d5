-- `advance` stages one more row, or finds too many entries.
use mathlib.Core.Path.{refl, sym}
use Rattle.compute.proofs.Progress.{buffers_kept, row_below, region_length, columns_length, values_length, columns_fit, values_fit, next_fits, row_bounds, progress_full, progress_more}
use Rattle.compute.proofs.advance.Goals as goal

pub final_row-m-requires : goal.final_row-m-requires
final_row-m-requires c =
    record {
      prepared = c.requires.progress.ready;
      sources = c.requires.progress.sources;
      flags = c.requires.progress.flags;
      space = c.requires.progress.space;
      row = row_below c.requires.progress.rows_are c.requires.row;
      buffers = c.requires.progress.buffers;
    }

pub overflow_add-next : goal.overflow_add-next
overflow_add-next c = next_fits _ _ _ _ _ _ _ c.requires.progress c.requires.row c.final_row-m.ensures

pub returns-then-next : goal.returns-then-next
returns-then-next c =
    (refl, progress_full _ _ _ _ _ _ _ c.requires.progress c.requires.row c.final_row-m.ensures c.if-next.true)

pub slice_bounds-stage_row-end-2 : goal.slice_bounds-stage_row-end-2
slice_bounds-stage_row-end-2 c = sym (region_length _ _ _ _ _ _ _ c.requires.progress)

pub slice_bounds-stage_row-end-3 : goal.slice_bounds-stage_row-end-3
slice_bounds-stage_row-end-3 c = columns_fit _ _ _ _ _ _ _ c.requires.progress c.requires.row c.final_row-m.ensures

pub slice_bounds-stage_row-end-4 : goal.slice_bounds-stage_row-end-4
slice_bounds-stage_row-end-4 c =
    sym (columns_length _ _ _ _ _ _ _ c.requires.progress c.requires.row c.final_row-m.ensures)

pub slice_bounds-stage_row-end-5 : goal.slice_bounds-stage_row-end-5
slice_bounds-stage_row-end-5 c = values_fit _ _ _ _ _ _ _ c.requires.progress c.requires.row c.final_row-m.ensures

pub slice_bounds-stage_row-end-6 : goal.slice_bounds-stage_row-end-6
slice_bounds-stage_row-end-6 c =
    sym (values_length _ _ _ _ _ _ _ c.requires.progress c.requires.row c.final_row-m.ensures)

pub stage_row-requires : goal.stage_row-requires
stage_row-requires c =
    row_bounds _ _ _ _ _ _ _ c.requires.progress c.requires.row c.final_row-m.ensures c.if-next.false

pub returns : goal.returns
returns c =
    let k = c.final_row-m.auto in
    progress_more _ _ _ _ _ _ _ c.requires.progress c.requires.row c.final_row-m.ensures c.if-next.false
    _ _ _ (buffers_kept _ _ _ _ c.requires.progress.buffers k.tc k.tv k.oc k.ov) c.stage_row.ensures
    c.stage_row.auto.work
