-- `add` resizes the slot for one entry more, and puts it in.
use native.Mathlib.Omega.{arith}
use Prim.Native.Nat.{ℕ, ◌+◌}
use mathlib.Core.Path.{ap, ◌∙◌}
use lib.ListN.{length}
use Rattle.matrix.specs.Layout.{entries}
use Rattle.store_cells.proofs.Checks.{no_fit}
use Rattle.store_cells.proofs.Rewritten.{fits_inside}
use Rattle.store_cells.proofs.Edited.{add_many, add_no_room, adding, adding_fits, few_yet, add_in, add_absent, add_space, added_placed}
use Rattle.store_cells.proofs.add.Goals as goal

pub entry_count-n-requires : goal.entry_count-n-requires
entry_count-n-requires c = rw c.contents-words.ensures.words c.requires.cell.held.matrix.header

pub returns-then-n-eq-MAX_ENTRIES : goal.returns-then-n-eq-MAX_ENTRIES
returns-then-n-eq-MAX_ENTRIES c =
    let m = c.entry_count-n.ensures ∙ ap entries c.contents-words.ensures.words in
    add_many c.requires.cell c.args.p c.args.value c.requires.absent (omega arith)

pub fits-requires : goal.fits-requires
fits-requires c =
    let m = c.requires.cell.held.matrix.header in
    let l = ap length c.contents-words.ensures.words in
    let w = c.requires.cell.held.whole in
    let r = m.row_range.most in
    let n = m.few in
    record {
      sections_1 = c.requires.cell.store.sections;
      sections_2 = c.requires.cell.slot;
      end_value_1 = c.requires.ends;
      end_value_2 = c.requires.cell.store.most;
      end_value_3 = omega arith;
    }

pub returns-then-not-fits : goal.returns-then-not-fits
returns-then-not-fits c =
    let a = c.args in
    let n = length c.contents-words.result.now in
    add_no_room c.requires.cell a.p a.value c.requires.absent a.end n
    (few_yet c.requires.cell (c.entry_count-n.ensures ∙ ap entries c.contents-words.ensures.words) c.if-n-eq-MAX_ENTRIES.false)
    c.requires.ends (ap length c.contents-words.ensures.words)
    (no_fit a.store.now a.slot a.end (n + 2) c.fits.ensures c.if-not-fits.true)

pub overflow_add-from : goal.overflow_add-from
overflow_add-from c =
    let i = fits_inside (adding_fits c.requires.cell c.requires.ends c.fits.ensures c.if-not-fits.false) _ c.find-from.ensures in
    omega arith

pub resize-requires : goal.resize-requires
resize-requires c = adding_fits c.requires.cell c.requires.ends c.fits.ensures c.if-not-fits.false

pub overflow_add-from-2 : goal.overflow_add-from-2
overflow_add-from-2 c =
    let i = fits_inside (adding_fits c.requires.cell c.requires.ends c.fits.ensures c.if-not-fits.false) _ c.find-from.ensures in
    omega arith

pub offset_bounds-store-from : goal.offset_bounds-store-from
offset_bounds-store-from c =
    let i = fits_inside (adding_fits c.requires.cell c.requires.ends c.fits.ensures c.if-not-fits.false) _ c.find-from.ensures in
    omega arith

pub slice_bounds-insert_entry-end : goal.slice_bounds-insert_entry-end
slice_bounds-insert_entry-end c =
    let i = fits_inside (adding_fits c.requires.cell c.requires.ends c.fits.ensures c.if-not-fits.false) _ c.find-from.ensures in
    omega arith

pub insert_entry-requires : goal.insert_entry-requires
insert_entry-requires c =
    let r = adding c.requires.cell c.requires.absent
    (few_yet c.requires.cell (c.entry_count-n.ensures ∙ ap entries c.contents-words.ensures.words) c.if-n-eq-MAX_ENTRIES.false) (ap length c.contents-words.ensures.words)
    (adding_fits c.requires.cell c.requires.ends c.fits.ensures c.if-not-fits.false) c.find-from.ensures c.resize.ensures in
    record { fact_1 = add_in r; fact_2 = add_absent r; fact_3 = add_space r }

pub overflow_add-result : goal.overflow_add-result
overflow_add-result c =
    let m = c.entry_count-n.ensures ∙ ap entries c.contents-words.ensures.words in
    let f = few_yet c.requires.cell m c.if-n-eq-MAX_ENTRIES.false in
    omega arith

pub returns : goal.returns
returns c =
    let m = c.entry_count-n.ensures ∙ ap entries c.contents-words.ensures.words in
    let r = adding c.requires.cell c.requires.absent (few_yet c.requires.cell m c.if-n-eq-MAX_ENTRIES.false) (ap length c.contents-words.ensures.words)
    (adding_fits c.requires.cell c.requires.ends c.fits.ensures c.if-not-fits.false) c.find-from.ensures c.resize.ensures in
    added_placed r c.args.value _ _ (ap (λ (n : ℕ). n + 1) m) c.insert_entry.ensures
