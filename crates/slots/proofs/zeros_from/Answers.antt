-- `zeros_from` is the test `all_zero` of the words from a place on.
use native.Mathlib.Omega.{arith}
use mathlib.Core.Path.{ap}
use lib.ListN.{length}
use Rattle.slots.proofs.Checks.{collected_start, collected_turn, collected_end, tail_all}
use Rattle.slots.proofs.zeros_from.Goals as goal

pub loop-word-init : goal.loop-word-init
loop-word-init c = collected_start _

pub loop-word-preserved : goal.loop-word-preserved
loop-word-preserved c = rw (tail_all c.args.store.now c.args.at) (collected_turn c.loop-word.invariant)

pub returns : goal.returns
returns c =
    let e = ap length (tail_all c.args.store.now c.args.at) in
    collected_end c.loop-word.invariant (omega arith)
