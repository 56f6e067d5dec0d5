-- `row_of` lends the operands.
use native.Mathlib.Omega.{arith}
use mathlib.Core.Path.{sym}
use lib.Seq.{length-take-le}
use Rattle.matrix.specs.Layout.{max_matrix_words}
use Rattle.formula_steps.proofs.row_of.Goals as goal

pub slice_bounds-result_row-end : goal.slice_bounds-result_row-end
slice_bounds-result_row-end c =
    sym (length-take-le max_matrix_words c.args.area.now (omega (arith, c.requires.space)))

pub slice_bounds-result_row-end-3 : goal.slice_bounds-result_row-end-3
slice_bounds-result_row-end-3 c =
    sym (length-take-le max_matrix_words c.args.area.now (omega (arith, c.requires.space)))

pub result_row-requires : goal.result_row-requires
result_row-requires c = record { row_inputs = c.requires.row_inputs; buffers = c.requires.buffers }
