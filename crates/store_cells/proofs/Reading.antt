-- What `read_cell` answers, as the code reaches it, and that its position is small: packing an answer cites it.
use Prim.Native.Nat.{ℕ, ◌≤◌}
use mathlib.Core.Path.{◌≡◌, refl, ap}
use mathlib.Core.Bool.{Bool, true, false}
use mathlib.Core.List.{List}
use native.Mathlib.Omega.{arith}
use native.Mathlib.Decide.{ℕ_discrete}
use borrow.Author.Tests.{eq-eqb, ne_eqb}
use Rattle.limits.specs.Limits.{slot_count, max_entries}
use Rattle.answers.specs.Answers.{CellAnswer}
use Rattle.answers.specs.Refusals.{invalid_store}
use Rattle.answers.specs.Reads.{found_answer, refused_read}
use Rattle.grid.specs.Position.{entry_at}
use Rattle.matrix.proofs.Facts.{matrix_made}
use Rattle.slots.specs.Sections.{end_from, slot_at}
use Rattle.slots.specs.Valid.{store_valid}
use Rattle.slots.proofs.Facts.{store_facts}
use Rattle.cells.proofs.Positions.{entry_few}
use Rattle.model.specs.Effects.{Reply, wrote, found, totalled, reply_of}
use Rattle.model.specs.Calls.{read_cell, effect}
use Rattle.store_encoding.specs.Stores.{model_of, effect_reply, reply_on}
use Rattle.store_encoding.proofs.Held.{grid_model}
use Rattle.store_cells.specs.Slots.{cell_refusal, slot_grid}
use Rattle.store_cells.proofs.Checks.{Checked}
use Rattle.store_cells.proofs.Refusals.{Reached, reached}

-- the position in a reply
abbrev position_in : Reply → ℕ
position_in (wrote a) = 0
position_in (found a) = a.position
position_in (totalled a) = 0

module _ (s : List ℕ) (k i j : ℕ) where
  -- the words are no store
  pub read_no_store : store_valid s ≡ false → found (refused_read invalid_store) ≡ reply_on s (read_cell k i j)
  unfolding effect effect_reply
  read_no_store v = rw v

  -- 12, 13 or 7
  pub read_refused : store_valid s ≡ true → (code : ℕ) → code ≡ cell_refusal (model_of s) k i j → (code ≡ 0 → ⊥)
      → found (refused_read code) ≡ reply_on s (read_cell k i j)
  unfolding effect effect_reply reply_of cell_refusal
  read_refused v code e n = rw (v, ← e, ne_eqb _ _ n)

  -- the entry in the slot's grid
  pub read_found : {end : ℕ} → Reached s k i j end
      → found (found_answer (entry_at (slot_grid s k) i j)) ≡ reply_on s (read_cell k i j)
  unfolding effect effect_reply reply_of cell_refusal
  read_found h =
      let w = h.cell.held.whole in
      rw (h.checked.valid, eq-eqb _ _ h.free, grid_model s k (λ e. omega arith))

  -- the position is at most the largest number of entries, also of a refusal
  reply_position : position_in (reply_on s (read_cell k i j)) ≤ max_entries
  reply_position = stored (store_valid s) refl
    where
      reached_cell : store_valid s ≡ true → Dec (cell_refusal (model_of s) k i j ≡ 0)
          → position_in (reply_on s (read_cell k i j)) ≤ max_entries
      reached_cell v (yes z) =
          let c : Checked s (end_from slot_count s) = record { valid = v; store = store_facts s v; ends = refl } in
          let h = reached c refl z in
          let w = h.cell in
          let p = ap position_in (read_found h) in
          let f = entry_few (slot_at s k) i j (matrix_made _ w.held.matrix) w.row w.col in
          omega arith
      reached_cell v (no z) = let p = ap position_in (read_refused v _ refl z) in omega arith

      stored : (b : Bool) → store_valid s ≡ b → position_in (reply_on s (read_cell k i j)) ≤ max_entries
      stored true v = reached_cell v (ℕ_discrete (cell_refusal (model_of s) k i j) 0)
      stored false v = let p = ap position_in (read_no_store v) in omega arith

  pub read_position : (a : CellAnswer) → found a ≡ reply_on s (read_cell k i j) → a.position ≤ max_entries
  read_position a e = let p = ap position_in e in let q = reply_position in omega arith
