-- `replace` writes one word of the slot's own.
use native.Mathlib.Omega.{arith}
use Prim.Native.Nat.{ℕ, ◌+◌}
use mathlib.Core.Path.{ap, ◌∙◌}
use lib.ListN.{length}
use Rattle.matrix.specs.Layout.{entries}
use Rattle.store_cells.proofs.Edited.{slot_in, slot_inside, slot_lent, replaced_placed}
use Rattle.store_cells.proofs.replace.Goals as goal

pub entry_count-n-requires : goal.entry_count-n-requires
entry_count-n-requires c = rw c.contents-words.ensures.words c.requires.cell.held.matrix.header

pub overflow_add-from : goal.overflow_add-from
overflow_add-from c =
    let i = slot_inside c.requires.cell _ _ c.find-from.ensures (ap length c.contents-words.ensures.words) in omega arith

pub overflow_add-from-2 : goal.overflow_add-from-2
overflow_add-from-2 c =
    let i = slot_inside c.requires.cell _ _ c.find-from.ensures (ap length c.contents-words.ensures.words) in omega arith

pub offset_bounds-store-from : goal.offset_bounds-store-from
offset_bounds-store-from c =
    let i = slot_inside c.requires.cell _ _ c.find-from.ensures (ap length c.contents-words.ensures.words) in omega arith

pub slice_bounds-replace_value-end : goal.slice_bounds-replace_value-end
slice_bounds-replace_value-end c =
    let i = slot_inside c.requires.cell _ _ c.find-from.ensures (ap length c.contents-words.ensures.words) in omega arith

pub replace_value-requires : goal.replace_value-requires
replace_value-requires c =
    rw (slot_lent c.requires.cell _ _ (ap (λ (a : ℕ). a + 1) c.find-from.ensures) (ap length c.contents-words.ensures.words))
    record { fact_1 = slot_in c.requires.cell; fact_2 = c.requires.present }

pub returns : goal.returns
returns c =
    replaced_placed c.requires.cell c.args.p c.args.value c.requires.present _ _ _ _
    (ap (λ (a : ℕ). a + 1) c.find-from.ensures) (ap length c.contents-words.ensures.words)
    (c.entry_count-n.ensures ∙ ap entries c.contents-words.ensures.words) c.replace_value.ensures
