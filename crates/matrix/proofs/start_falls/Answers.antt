-- `start_falls` is `start_falls`: the falls at the starts of the rows passed.
use native.Mathlib.Omega.{arith}
use Prim.Native.Nat.{◌+◌}
use mathlib.Core.Path.{◌≡◌, sym}
use Rattle.column_order.proofs.Counts.{count_none, count_turn, count_most}
use Rattle.matrix.specs.Layout.{rows}
use Rattle.matrix.specs.Falls.{falls_at_start, start_falls}
use Rattle.matrix.proofs.Facts.{row_span}
use Rattle.matrix.proofs.start_falls.Goals as goal

pub loop-i-init : goal.loop-i-init
loop-i-init c = record { few = omega arith; counted = sym (count_none _) }

pub falls_at_start-requires-clause-row : goal.falls_at_start-requires-clause-row
falls_at_start-requires-clause-row c = row_span _ c.requires.starts c.loop-i.i (omega arith)

pub loop-i-preserved : goal.loop-i-preserved
loop-i-preserved c =
    let p = falls_at_start c.args.words.now in
    let counted = count_turn p _ c.loop-i.invariant.counted c.from-falls.ensures c.falls_at_start.ensures in
    record { few = omega (arith, count_most (c.loop-i.i + 1) p); counted = counted }

pub returns : goal.returns
unfolding start_falls
returns c =
    let e : c.loop-i.i ≡ rows c.args.words.now = omega arith in
    rw e at c.loop-i.invariant.counted
