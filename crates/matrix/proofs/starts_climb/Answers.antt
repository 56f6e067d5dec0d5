-- `starts_climb` tells of the starts passed.
use native.Mathlib.Omega.{arith}
use mathlib.Core.Path.{◌≡◌, sym, ◌∙◌}
use borrow.Author.Tests.{le-leb, lt-leb}
use Rattle.conditions.proofs.Tests.{all_none, all_kept, all_not}
use Rattle.matrix.specs.Layout.{rows}
use Rattle.matrix.proofs.starts_climb.Goals as goal
use Rattle.matrix.proofs.starts_climb.Goals.{then-words-i, else-words-i}

pub loop-i-init : goal.loop-i-init
loop-i-init c = sym (all_none _)

pub loop-i-preserved : goal.loop-i-preserved
loop-i-preserved c = elim c.if-words-i.branch [
  | then-words-i w ↦ w.climb-is ∙ all_kept _ _ _ c.loop-i.invariant (le-leb _ _ w.if-words-i.true)
  | else-words-i w ↦
      w.climb-is ∙ lt-leb _ _ w.if-words-i.false
      ∙ sym (all_not _ _ c.loop-i.i (omega arith) (lt-leb _ _ w.if-words-i.false))
]

pub returns : goal.returns
returns c = let e : c.loop-i.i ≡ rows c.args.words.now = omega arith in rw e at c.loop-i.invariant
