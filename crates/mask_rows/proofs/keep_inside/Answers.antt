-- `keep_inside` keeps the columns that the marks of the mask's row let through.
use Rattle.mask_rows.proofs.Masks.{unmarked_new}
use Rattle.mask_rows.proofs.keep_inside.Goals as goal

pub mark_mask-requires : goal.mark_mask-requires
mark_mask-requires c =
    record {
      row = c.requires.fact_1.row;
      unmarked = unmarked_new;
    }
