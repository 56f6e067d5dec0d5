-- `take` removes the entry from the slot's words, and gives up the last two.
use native.Mathlib.Omega.{arith}
use Prim.Native.Nat.{ℕ, ◌+◌}
use mathlib.Core.Path.{ap, ◌∙◌}
use lib.ListN.{length}
use Rattle.matrix.specs.Layout.{entries}
use Rattle.answers.specs.Refusals.{accepted}
use Rattle.store_cells.proofs.Counts.{taken_count}
use Rattle.store_cells.proofs.Edited.{slot_in, slot_inside, slot_lent}
use Rattle.store_cells.proofs.Taken.{removed, taken_fits, taken_put}
use Rattle.store_cells.proofs.take.Goals as goal

pub entry_count-n-requires : goal.entry_count-n-requires
entry_count-n-requires c = rw c.contents-words.ensures.words c.requires.cell.held.matrix.header

pub overflow_add-from : goal.overflow_add-from
overflow_add-from c =
    let i = slot_inside c.requires.cell _ _ c.find-from.ensures (ap length c.contents-words.ensures.words) in omega arith

pub overflow_add-from-2 : goal.overflow_add-from-2
overflow_add-from-2 c =
    let i = slot_inside c.requires.cell _ _ c.find-from.ensures (ap length c.contents-words.ensures.words) in omega arith

pub offset_bounds-store-from : goal.offset_bounds-store-from
offset_bounds-store-from c =
    let i = slot_inside c.requires.cell _ _ c.find-from.ensures (ap length c.contents-words.ensures.words) in omega arith

pub slice_bounds-remove_entry-end : goal.slice_bounds-remove_entry-end
slice_bounds-remove_entry-end c =
    let i = slot_inside c.requires.cell _ _ c.find-from.ensures (ap length c.contents-words.ensures.words) in omega arith

pub remove_entry-requires : goal.remove_entry-requires
remove_entry-requires c =
    rw (slot_lent c.requires.cell _ _ (ap (λ (a : ℕ). a + 1) c.find-from.ensures) (ap length c.contents-words.ensures.words))
    record { fact_1 = slot_in c.requires.cell; fact_2 = c.requires.present }

pub overflow_sub-size : goal.overflow_sub-size
overflow_sub-size c =
    let l = ap length c.contents-words.ensures.words in
    let w = c.requires.cell.held.whole in
    omega arith

pub resize-requires : goal.resize-requires
resize-requires c =
    taken_fits (removed c.requires.cell c.requires.present c.requires.ends (ap length c.contents-words.ensures.words)
    c.find-from.ensures c.remove_entry.ensures)

pub overflow_sub-result : goal.overflow_sub-result
overflow_sub-result c =
    let m = c.entry_count-n.ensures ∙ ap entries c.contents-words.ensures.words in
    let t = taken_count (slot_in c.requires.cell) _ c.requires.present in
    omega arith

pub returns : goal.returns
returns c =
    let m = c.entry_count-n.ensures ∙ ap entries c.contents-words.ensures.words in
    let t = taken_count (slot_in c.requires.cell) c.args.p c.requires.present in
    record {
      answer_is = ap accepted (omega arith);
      words_are =
          c.resize.ensures
          ∙ taken_put (removed c.requires.cell c.requires.present c.requires.ends
          (ap length c.contents-words.ensures.words) c.find-from.ensures c.remove_entry.ensures);
    }
