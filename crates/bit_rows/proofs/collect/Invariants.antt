-- `collect` collects the columns of the words in use: those of words whose bits are no longer in `used` are written.
use Rattle.bit_rows.proofs.Collecting.{WordsAt}
use Rattle.bit_rows.proofs.collect.Given as goal

abbrev pub invariant-loop-used : goal.invariant-loop-used
invariant-loop-used l = WordsAt l.top l.map l.initial.oc l.initial.ov l.oc l.ov l.used l.e

abbrev pub decreases-loop-used : goal.decreases-loop-used
decreases-loop-used l = l.used
