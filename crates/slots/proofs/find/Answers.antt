-- `find` adds up the sections before a slot's.
use native.Mathlib.Omega.{arith}
use mathlib.Core.Path.{sym}
use Rattle.slots.proofs.Sections.{end_none, section_at}
use Rattle.slots.proofs.find.Goals as goal

pub loop-k-init : goal.loop-k-init
loop-k-init c = (omega arith, sym (end_none _))

pub overflow_add-at : goal.overflow_add-at
overflow_add-at c =
    let f = section_at _ _ _ c.requires.fact_1.within (omega arith) c.loop-k.invariant.1 in omega arith

pub offset_bounds-store-at : goal.offset_bounds-store-at
offset_bounds-store-at c =
    let f = section_at _ _ _ c.requires.fact_1.within (omega arith) c.loop-k.invariant.1 in omega arith

pub bounds-store-at : goal.bounds-store-at
bounds-store-at c =
    let f = section_at _ _ _ c.requires.fact_1.within (omega arith) c.loop-k.invariant.1 in omega arith

pub overflow_add-at-in-loop-k : goal.overflow_add-at-in-loop-k
overflow_add-at-in-loop-k c =
    let f = section_at _ _ _ c.requires.fact_1.within (omega arith) c.loop-k.invariant.1 in omega arith

pub loop-k-preserved : goal.loop-k-preserved
loop-k-preserved c =
    (omega arith, (section_at _ _ _ c.requires.fact_1.within (omega arith) c.loop-k.invariant.1).next)
