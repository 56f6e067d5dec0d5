-- `mark_row` stamps the places of the columns so far.
use native.Mathlib.Omega.{arith}
use Rattle.words.specs.Words.{at}
use Rattle.key_marks.proofs.Stamps.{has_none, has_next, stamped_none, stamped_same, stamped_one, stamped_then}
use Rattle.key_marks.proofs.mark_row.Goals as goal

pub loop-column-init : goal.loop-column-init
loop-column-init c = stamped_none _ _ (has_none c.args.columns.now)

pub loop-column-preserved : goal.loop-column-preserved
loop-column-preserved c =
    let i = c.loop-column.column-index in
    let l = c.requires.places.below i c.loop-column-test.true in
    stamped_same
    (stamped_then c.requires.marking c.loop-column.invariant
    (stamped_one c.loop-column.marks (at c.args.columns.now i) (omega arith) c.stamp_once.ensures))
    (λ j. has_next c.args.columns.now i j c.loop-column-test.true)
