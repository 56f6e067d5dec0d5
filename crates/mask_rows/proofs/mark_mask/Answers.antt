-- `mark_mask`: the entries before p have their marks.
use Rattle.mask_rows.proofs.Masks.{masking_start, masking_step, masking_done}
use Rattle.mask_rows.proofs.mark_mask.Goals as goal

pub loop-p-init : goal.loop-p-init
loop-p-init c = masking_start c.requires.row c.requires.unmarked

pub loop-p-preserved : goal.loop-p-preserved
loop-p-preserved c =
    masking_step c.requires.row c.loop-p.invariant c.loop-p-test.true c.mark_entry-top.ensures

pub returns : goal.returns
returns c = masking_done c.requires.row c.loop-p.invariant c.loop-p-test.false
