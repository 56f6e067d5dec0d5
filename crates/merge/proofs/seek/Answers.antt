-- `seek` gives the position: no index that is passed holds column q or a later one.
use native.Mathlib.Omega.{arith}
use Rattle.rows.proofs.Cursors.{seek_more, seek_stop, seek_end}
use Rattle.merge.proofs.seek.Goals as goal

pub loop-k-init : goal.loop-k-init
loop-k-init c = c.requires.i_bound

pub returns-then-q-columns : goal.returns-then-q-columns
returns-then-q-columns c = seek_stop _ c.requires.rises _ _ c.loop-k.invariant (omega arith)

pub loop-k-preserved : goal.loop-k-preserved
loop-k-preserved c = seek_more _ c.requires.rises _ _ (omega arith) (omega arith)

pub returns : goal.returns
returns c =
    seek_end _ c.requires.rises _ _ (omega (arith, c.loop-k.invariant, c.loop-k-test.false)) (omega arith)
