-- `touch` writes the revision of the slot's own words.
use native.Mathlib.Omega.{arith}
use Prim.Native.Nat.{ℕ, ◌+◌}
use mathlib.Core.Path.{refl, ap, ◌∙◌}
use lib.ListN.{length}
use Rattle.matrix.specs.Layout.{entries}
use Rattle.store_cells.proofs.Edited.{slot_inside, slot_lent}
use Rattle.store_cells.proofs.Taken.{cleared_put}
use Rattle.store_cells.proofs.touch.Goals as goal

pub entry_count-n-requires : goal.entry_count-n-requires
entry_count-n-requires c = rw c.contents-words.ensures.words c.requires.cell.held.matrix.header

pub overflow_add-from : goal.overflow_add-from
overflow_add-from c =
    let i = slot_inside c.requires.cell _ _ c.find-from.ensures (ap length c.contents-words.ensures.words) in omega arith

pub overflow_add-from-2 : goal.overflow_add-from-2
overflow_add-from-2 c =
    let i = slot_inside c.requires.cell _ _ c.find-from.ensures (ap length c.contents-words.ensures.words) in omega arith

pub offset_bounds-store-from : goal.offset_bounds-store-from
offset_bounds-store-from c =
    let i = slot_inside c.requires.cell _ _ c.find-from.ensures (ap length c.contents-words.ensures.words) in omega arith

pub slice_bounds-touch-end : goal.slice_bounds-touch-end
slice_bounds-touch-end c =
    let i = slot_inside c.requires.cell _ _ c.find-from.ensures (ap length c.contents-words.ensures.words) in omega arith

pub touch-requires : goal.touch-requires
touch-requires c =
    let w = c.requires.cell.held.whole in
    rw (slot_lent c.requires.cell _ _ (ap (λ (a : ℕ). a + 1) c.find-from.ensures) (ap length c.contents-words.ensures.words))
    (omega arith)

pub returns : goal.returns
returns c =
    cleared_put c.requires.cell c.args.p _ _ _ _ c.requires.absent refl
    (c.entry_count-n.ensures ∙ ap entries c.contents-words.ensures.words)
    (ap (λ (a : ℕ). a + 1) c.find-from.ensures) (ap length c.contents-words.ensures.words) c.touch.ensures
