-- `cell_refusal` looks at the slot, its contents, the row and the column.
use native.Mathlib.Omega.{arith}
use Prim.Native.Nat.{ℕ, ◌<◌}
use mathlib.Core.Path.{◌≡◌, sym, ap, ◌∙◌}
use mathlib.Core.Bool.{false, false≢true}
use mathlib.Core.List.{List}
use lib.Dec.{eqb}
use lib.ListN.{length}
use borrow.Author.Tests.{eq-eqb, eqb-true}
use Rattle.limits.specs.Limits.{slot_count}
use Rattle.matrix.specs.Layout.{rows, cols}
use Rattle.slots.specs.Sections.{slot_at}
use Rattle.slots.specs.Facts.{Held, Store}
use Rattle.slots.proofs.Facts.{held_facts}
use Rattle.store_cells.proofs.Refusals.{slot_refused, empty_refused, row_refused, col_refused, cell_there}
use Rattle.store_cells.proofs.cell_refusal.Goals as goal
use Rattle.store_cells.proofs.cell_refusal.Goals.{then-words-i-via-then-words-i, then-words-i-via-else-words-i+then-words-j}

-- the words of a slot that are not none, as they were taken
record Filled (s w : List ℕ) (k : ℕ) : Type 0 where
  some_words : length (slot_at s k) ≡ 0 → ⊥
  held : Held (slot_at s k)
  long : length w ≡ length (slot_at s k)
  rows_are : rows w ≡ rows (slot_at s k)
  cols_are : cols w ≡ cols (slot_at s k)

filled : (s w : List ℕ) (k : ℕ) → Store s → k < slot_count → w ≡ slot_at s k → false ≡ eqb (length w) 0 → Filled s w k
filled s w k h l e n =
    let f = λ (z : length (slot_at s k) ≡ 0). false≢true (n ∙ eq-eqb (length w) 0 (ap length e ∙ z)) in
    record {
      some_words = f;
      held = held_facts (slot_at s k) (h.contents k l) f;
      long = ap length e;
      rows_are = ap rows e;
      cols_are = ap cols e;
    }

pub returns-then-slot-ge-SLOTS : goal.returns-then-slot-ge-SLOTS
returns-then-slot-ge-SLOTS c = slot_refused _ _ _ _ (omega arith)

pub returns-then-is_empty : goal.returns-then-is_empty
returns-then-is_empty c =
    empty_refused _ _ _ _ (omega arith)
    (sym (ap length c.contents-words.ensures.words) ∙ eqb-true _ _ (sym c.if-is_empty.ensures))

pub bounds-words-3 : goal.bounds-words-3
bounds-words-3 c =
    let f = filled _ _ c.args.slot c.requires (omega arith) c.contents-words.ensures.words c.if-is_empty.ensures in
    omega arith

pub bounds-words-4 : goal.bounds-words-4
bounds-words-4 c =
    let f = filled _ _ c.args.slot c.requires (omega arith) c.contents-words.ensures.words c.if-is_empty.ensures in
    omega arith

pub returns-then-words-i : goal.returns-then-words-i
returns-then-words-i c =
    let f = filled _ _ c.args.slot c.requires (omega arith) c.contents-words.ensures.words c.if-is_empty.ensures in
    elim c.then-words-i.branch [
      | then-words-i-via-then-words-i w ↦
          row_refused _ _ _ _ (omega arith) f.some_words (omega (arith, f.rows_are, w.if-words-i.true))
      | then-words-i-via-else-words-i+then-words-j w ↦
          col_refused _ _ _ _ (omega arith) f.some_words (omega (arith, f.rows_are, w.if-words-i.false))
          (omega (arith, f.cols_are, w.if-words-j.true))
    ]

pub returns : goal.returns
returns c =
    let f = filled _ _ c.args.slot c.requires (omega arith) c.contents-words.ensures.words c.if-is_empty.ensures in
    cell_there _ _ _ _ (omega arith) f.some_words (omega (arith, f.rows_are)) (omega (arith, f.cols_are))
