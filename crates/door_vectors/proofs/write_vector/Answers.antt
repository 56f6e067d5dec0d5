-- `write_vector` stages one row and finishes the writing.
use native.Mathlib.Omega.{arith}
use Rattle.door_vectors.proofs.Writing.{vector_most, vector_values, vector_bounds, finish_bounds, vector_written}
use Rattle.door_vectors.proofs.write_vector.Goals as goal

pub slice_bounds-stage_row-end-3 : goal.slice_bounds-stage_row-end-3
slice_bounds-stage_row-end-3 c = omega (arith, vector_most c.args.doors.now c.gather_doors-n.ensures)

pub slice_bounds-stage_row-end-4 : goal.slice_bounds-stage_row-end-4
slice_bounds-stage_row-end-4 c = vector_values c.args.doors.now c.gather_doors-n.ensures

pub stage_row-requires : goal.stage_row-requires
stage_row-requires c =
    vector_bounds c.args.out.now c.requires.room c.requires.space c.gather_doors-n.ensures

pub finish-requires : goal.finish-requires
finish-requires c =
    finish_bounds c.args.out.now c.requires.room c.requires.space c.gather_doors-n.ensures
    c.stage_row.auto.work

pub returns : goal.returns
returns c =
    vector_written c.args.out.now c.requires.room c.requires.space c.gather_doors-n.ensures
    c.stage_row.ensures c.stage_row.auto.work c.finish.ensures
