-- `collect_word` collects the columns of one word: those whose bits are no longer in `rest` are written.
use Rattle.bit_rows.proofs.Collecting.{WordAt}
use Rattle.bit_rows.proofs.collect_word.Given as goal

abbrev pub invariant-loop-rest : goal.invariant-loop-rest
invariant-loop-rest l = WordAt l.word l.base l.initial.oc l.initial.ov l.oc l.ov l.count l.rest l.e

abbrev pub decreases-loop-rest : goal.decreases-loop-rest
decreases-loop-rest l = l.rest
