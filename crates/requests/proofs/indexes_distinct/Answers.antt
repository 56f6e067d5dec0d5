-- `indexes_distinct` marks the indexes that it has passed: each of them fits.
use native.Mathlib.Omega.{arith}
use mathlib.Core.Path.{sym, ◌∙◌}
use Rattle.requests.proofs.Lists.{passed_start, passed_past, passed_twice, passed_more, passed_done}
use Rattle.requests.proofs.indexes_distinct.Goals as goal

pub loop-index-init : goal.loop-index-init
loop-index-init c = passed_start _ _ _ c.requires.unmarked

pub returns-then-n-j : goal.returns-then-n-j
returns-then-n-j c = passed_past c.loop-index.invariant c.loop-index-test.true c.if-n-j.true

pub returns-then-mark_at-ne0 : goal.returns-then-mark_at-ne0
returns-then-mark_at-ne0 c =
    passed_twice c.loop-index.invariant c.loop-index-test.true c.if-n-j.false
    (λ z. c.if-mark_at-ne0.true (c.mark_at.ensures ∙ z))

pub loop-index-preserved : goal.loop-index-preserved
loop-index-preserved c =
    passed_more c.loop-index.invariant c.loop-index-test.true c.if-n-j.false
    (sym c.mark_at.ensures ∙ c.if-mark_at-ne0.false) c.mark_column-top.ensures
