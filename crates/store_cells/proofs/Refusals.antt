-- 12, 13 and 7 of a call that names a cell, as the code reaches them, and what is known where none applies.
use Prim.Native.Nat.{ℕ, ◌≤◌, ◌<◌}
use mathlib.Core.Path.{◌≡◌, refl, sym, ◌∙◌}
use mathlib.Core.Bool.{false≢true}
use mathlib.Core.List.{List}
use lib.ListN.{length}
use lib.Dec.{ltb}
use borrow.Author.Tests.{le-leb, lt-leb, lt-ltb, le-ltb, leb-false, ltb-true, not-false}
use Rattle.limits.specs.Limits.{slot_count}
use Rattle.answers.specs.Refusals.{index_out_of_bounds, invalid_store, empty_slot}
use Rattle.conditions.specs.Tests.{◌and◌}
use Rattle.conditions.proofs.Tests.{and_left, and_right}
use Rattle.matrix.specs.Layout.{rows, cols}
use Rattle.refusals.proofs.Cases.{later}
use Rattle.slots.specs.Sections.{slot_at}
use Rattle.slots.specs.Facts.{Store}
use Rattle.slots.proofs.Facts.{held_facts}
use Rattle.model.specs.Model.{grid_at}
use Rattle.store_encoding.specs.Stores.{model_of}
use Rattle.store_encoding.proofs.Held.{vacant_model, holding_model, grid_model}
use Rattle.store_cells.specs.Slots.{cell_refusal, CellOf}
use Rattle.store_cells.proofs.Checks.{Checked}

module _ (s : List ℕ) (k i j : ℕ) where
  -- 12
  pub slot_refused : slot_count ≤ k → invalid_store ≡ cell_refusal (model_of s) k i j
  unfolding cell_refusal
  slot_refused l = rw (le-leb _ _ l)

  module _ (l : k < slot_count) where
    -- 13
    pub empty_refused : length (slot_at s k) ≡ 0 → empty_slot ≡ cell_refusal (model_of s) k i j
    unfolding cell_refusal
    empty_refused e = rw (lt-leb _ _ l, vacant_model s k e)

    module _ (n : length (slot_at s k) ≡ 0 → ⊥) where
      -- 7, by the row and by the column
      pub row_refused : rows (slot_at s k) ≤ i → index_out_of_bounds ≡ cell_refusal (model_of s) k i j
      unfolding cell_refusal ◌and◌
      row_refused r = rw (lt-leb _ _ l, holding_model s k n, le-ltb _ _ r)

      pub col_refused : i < rows (slot_at s k) → cols (slot_at s k) ≤ j → index_out_of_bounds ≡ cell_refusal (model_of s) k i j
      unfolding cell_refusal ◌and◌
      col_refused r c = rw (lt-leb _ _ l, holding_model s k n, lt-ltb _ _ r, le-ltb _ _ c)

      -- none
      pub cell_there : i < rows (slot_at s k) → j < cols (slot_at s k) → 0 ≡ cell_refusal (model_of s) k i j
      unfolding cell_refusal ◌and◌
      cell_there r c = rw (lt-leb _ _ l, holding_model s k n, lt-ltb _ _ r, lt-ltb _ _ c)

-- where none applies, the slot holds a matrix with that cell
cell_of_lem : (s : List ℕ) (k i j : ℕ) → Store s → cell_refusal (model_of s) k i j ≡ 0 → CellOf s k i j
unfolding cell_refusal
cell_of_lem s k i j h z =
    let a = later _ invalid_store _ refl z in
    let b = later _ empty_slot _ refl a.rest in
    let c = later _ index_out_of_bounds _ refl b.rest in
    let l = leb-false _ _ a.here in
    let n : length (slot_at s k) ≡ 0 → ⊥ = λ e. false≢true (sym b.here ∙ vacant_model s k e) in
    let g = grid_at (model_of s) k in
    let e = grid_model s k n in
    let t = not-false (ltb i g.rows and ltb j g.cols) c.here in
    let r : i < g.rows = ltb-true _ _ (and_left _ _ t) in
    let q : j < g.cols = ltb-true _ _ (and_right _ _ t) in
    record {
      store = h;
      slot = l;
      held = held_facts (slot_at s k) (h.contents k l) n;
      row = rw e at r;
      col = rw e at q;
    }

-- a call past its tests: the words are a store, none of 12, 13 and 7 applies, and the cell is there
pub record Reached (s : List ℕ) (k i j end : ℕ) : Type 0 where
  pub checked : Checked s end
  pub free : cell_refusal (model_of s) k i j ≡ 0
  pub cell : CellOf s k i j

pub reached : {s : List ℕ} {k i j end code : ℕ} → Checked s end → code ≡ cell_refusal (model_of s) k i j → code ≡ 0
    → Reached s k i j end
reached h e z =
    let f = sym e ∙ z in
    record { checked = h; free = f; cell = cell_of_lem _ _ _ _ h.store f }
