-- `fits` counts the sections with another count for the slot.
use native.Mathlib.Omega.{arith}
use Prim.Native.Nat.{ℕ, ◌+◌, ◌-◌}
use mathlib.Core.Path.{ap}
use lib.ListN.{length}
use lib.Dec.{leb}
use Rattle.words.specs.Words.{at}
use Rattle.slots.proofs.Sections.{section_at}
use Rattle.slots.proofs.fits.Goals as goal

pub offset_bounds-store-at : goal.offset_bounds-store-at
offset_bounds-store-at c =
    let f = section_at _ _ _ c.requires.sections_1.within c.requires.sections_2 c.find-at.ensures in omega arith

pub bounds-store-at : goal.bounds-store-at
bounds-store-at c =
    let f = section_at _ _ _ c.requires.sections_1.within c.requires.sections_2 c.find-at.ensures in omega arith

pub overflow_sub-result : goal.overflow_sub-result
overflow_sub-result c =
    let f = section_at _ _ _ c.requires.sections_1.within c.requires.sections_2 c.find-at.ensures in omega arith

pub returns : goal.returns
returns c =
    let a = c.args in
    ap (λ (i : ℕ). leb (a.end - at a.store.now i + a.size) (length a.store.now)) c.find-at.ensures
