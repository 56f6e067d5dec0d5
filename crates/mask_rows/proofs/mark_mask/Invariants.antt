-- `mark_mask`: the entries before p have their marks.
use Rattle.mask_rows.proofs.Masks.{Masking}
use Rattle.mask_rows.proofs.mark_mask.Given as goal

abbrev pub invariant-loop-p : goal.invariant-loop-p
invariant-loop-p l = Masking l.structural l.columns l.values l.top l.map l.p
