-- `sections_end` passes the sections one by one, each valid.
use native.Mathlib.Omega.{arith}
use Rattle.conditions.proofs.Tests.{said_no, said_yes}
use Rattle.slots.proofs.Checks.{walk_start, walk_inside, walk_turn, walk_stop, walk_end}
use Rattle.slots.proofs.sections_end.Goals as goal

pub loop-k-init : goal.loop-k-init
loop-k-init c = walk_start _

pub returns-then-not-section_valid : goal.returns-then-not-section_valid
returns-then-not-section_valid c =
    walk_stop c.loop-k.invariant (omega arith) (said_no c.section_valid.ensures c.if-not-section_valid.true)

pub bounds-store-end : goal.bounds-store-end
bounds-store-end c =
    let f = walk_inside c.loop-k.invariant (said_yes c.section_valid.ensures c.if-not-section_valid.false) in
    omega arith

pub loop-k-preserved : goal.loop-k-preserved
loop-k-preserved c =
    walk_turn c.loop-k.invariant (omega arith) (said_yes c.section_valid.ensures c.if-not-section_valid.false)

pub returns : goal.returns
returns c = walk_end c.loop-k.invariant (omega arith)
