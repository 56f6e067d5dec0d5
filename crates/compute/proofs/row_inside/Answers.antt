-- `row_inside` hands on the mask's row where there is a mask.
use mathlib.Core.Path.{refl}
use Rattle.compute.proofs.FinalRow.{mask_known, mask_inside}
use Rattle.compute.proofs.row_inside.Goals as goal

pub result_row_inside-requires : goal.result_row_inside-requires
result_row_inside-requires c =
    let a = c.args in record {
      row_inputs = c.requires.row_inputs;
      buffers = c.requires.buffers;
      mask_known = mask_known a.w a.mask.now a.i _ _ c.requires.mask_there c.mask_row.ensures.columns c.mask_row.ensures.values;
    }

pub returns : goal.returns
returns c =
    let a = c.args in
    mask_inside a.w a.w.has_mask refl a.mask.now a.i
    (rw (c.mask_row.ensures.columns, c.mask_row.ensures.values) at c.result_row_inside.ensures)
