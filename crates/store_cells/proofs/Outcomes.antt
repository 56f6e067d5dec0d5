-- The calls that write, from what the code has found: what they answer, and the words that they leave.
use Prim.Native.Nat.{ℕ, ◌+◌, ◌-◌, ◌≤◌, ◌<◌}
use native.Mathlib.Omega.{arith}
use native.Mathlib.Nat.{add-zero}
use native.Mathlib.Decide.{ℕ_discrete}
use mathlib.Core.Path.{◌≡◌, refl, sym, ap, ◌∙◌}
use mathlib.Core.Bool.{true}
use mathlib.Core.List.{List, []}
use lib.ListN.{length}
use borrow.Author.Tests.{le-leb, lt-leb, lt-ltb, le-ltb, eq-eqb, ne_eqb, eqb-false}
use Rattle.limits.specs.Limits.{slot_count, max_entries}
use Rattle.answers.specs.Answers.{Answer}
use Rattle.answers.specs.Refusals.{accepted, refused, unless_refused, too_many_entries, insufficient_space, invalid_store}
use Rattle.words.specs.Words.{part}
use Rattle.words.proofs.Parts.{part_empty}
use Rattle.grid.specs.Grid.{Grid}
use Rattle.grid.specs.Entries.{entry_count}
use Rattle.grid.specs.Size.{grid_size}
use Rattle.grid.specs.Revision.{Writing, updating, revision_after}
use Rattle.matrix.specs.Layout.{revision, grid_of}
use Rattle.encoding.proofs.Canonical.{encode_length}
use Rattle.refusals.specs.Cases.{Case, answer_for}
use Rattle.refusals.proofs.Cases.{applying_first, applying_rest}
use Rattle.slots.specs.Sections.{end_from, slot_at, count_at}
use Rattle.slots.specs.Valid.{store_valid}
use Rattle.slots.specs.Facts.{Store}
use Rattle.slots.specs.Room.{slot_put, words_with, resized}
use Rattle.slots.proofs.Facts.{store_facts}
use Rattle.model.specs.Model.{Model, vacant, holding, grid_at, revision_at, needed_with}
use Rattle.model.specs.Effects.{wrote, putting_grid, refusal_of}
use Rattle.model.specs.Calls.{drop_slot, set_cell, clear_cell, cell_cases, fit_cases, with_value, effect}
use Rattle.store_encoding.specs.Stores.{model_of, Effected, Performed}
use Rattle.store_encoding.specs.Placing.{place_refusal, Placed}
use Rattle.store_encoding.proofs.Held.{slot_written, grid_model, revision_model, needed_model}
use Rattle.store_encoding.proofs.Performed.{performed_refused, performed_done}
use Rattle.store_cells.specs.Slots.{cell_refusal, grid_put, Put, CellSet, CellCleared}
use Rattle.store_cells.proofs.Refusals.{Reached}

-- the words that are needed with g in slot k
pub room_of : (s : List ℕ) (k : ℕ) (g : Grid) → Store s → k < slot_count
    → needed_with (model_of s) k g ≡ words_with s k (grid_size g)
room_of s k g h l = needed_model s k (holding 0 g) h l ∙ ap (words_with s k) (encode_length 0 g)

-- ---- 10 and 11 of a grid that is put into a slot
module _ {s : List ℕ} {k : ℕ} (h : Store s) (l : k < slot_count) (v : ℕ) (g : Grid) where
  pub placed_many : max_entries < entry_count g → Placed s k v g (refused too_many_entries) s
  unfolding place_refusal
  placed_many f = record { answer_is = rw (lt-ltb _ _ f); words_are = refl }

  module _ (f : entry_count g ≤ max_entries) where
    pub placed_no_room : length s < end_from slot_count s - count_at s k + grid_size g
        → Placed s k v g (refused insufficient_space) s
    unfolding place_refusal
    placed_no_room d =
        record { answer_is = rw (le-ltb _ _ f, room_of s k g h l, lt-ltb _ _ d); words_are = refl }

    -- neither
    pub placed_written : (n : ℕ) (s' : List ℕ) → end_from slot_count s - count_at s k + grid_size g ≤ length s
        → n ≡ entry_count g → s' ≡ grid_put s k v g → Placed s k v g (accepted n) s'
    unfolding place_refusal
    placed_written n s' d e w =
        record { answer_is = ap accepted e ∙ rw (le-ltb _ _ f, room_of s k g h l, le-ltb _ _ d); words_are = w }

-- ---- a call that puts a grid into a slot
module _ (how : Writing) (s : List ℕ) (k : ℕ) (grid : Model → Grid) (cases : ℕ → Model → List Case)
    (v : store_valid s ≡ true) where
  abbrev refusal : ℕ
  refusal = refusal_of (putting_grid how k grid cases) (length s) (model_of s)

  abbrev g : Grid
  g = grid (model_of s)

  abbrev u : ℕ
  u = revision_after how (revision_at (model_of s) k)

  -- it is accepted
  pub performed_put : {answer : Answer} {s' : List ℕ} → refusal ≡ 0 → Put s k u g answer s'
      → Effected s (putting_grid how k grid cases) (wrote answer) s'
  performed_put {answer} {s'} z p =
      performed_done s (putting_grid how k grid cases) v z (wrote answer) s' (ap wrote p.answer_is)
      (p.words_are ∙ slot_written s k (holding u g) (store_facts s v))

  -- or refused by 10 or 11
  performed_placed : {answer : Answer} {s' : List ℕ} → refusal ≡ place_refusal s k g
      → Placed s k u g answer s' → Effected s (putting_grid how k grid cases) (wrote answer) s'
  performed_placed {answer} {s'} c p = go (ℕ_discrete refusal 0)
    where
      answer_of_lem : answer ≡ answer_for refusal g
      answer_of_lem = p.answer_is ∙ ap (λ (n : ℕ). answer_for n g) (sym c)

      words_of_lem : (a : Answer) → answer ≡ a → s' ≡ unless_refused a s (grid_put s k u g)
      words_of_lem a e = p.words_are ∙ ap (λ (b : Answer). unless_refused b s (grid_put s k u g)) e

      go : Dec (refusal ≡ 0) → Effected s (putting_grid how k grid cases) (wrote answer) s'
      go (yes z) =
          let a : answer ≡ accepted (entry_count g) = answer_of_lem ∙ rw (eq-eqb _ _ z) in
          performed_put z (record { answer_is = a; words_are = words_of_lem _ a })
      go (no n) =
          let a : answer ≡ refused refusal = answer_of_lem ∙ rw (ne_eqb _ _ n) in
          let t : s' ≡ s = words_of_lem _ a ∙ rw (ne_eqb _ _ n) in
          rw (a, t) (performed_refused s (putting_grid how k grid cases) v refusal refl n)

-- ---- set and clear of a cell
module _ (s : List ℕ) (k i j : ℕ) (v : store_valid s ≡ true) where
  -- it is not there
  pub set_refused : (x : ℕ) (code : ℕ) → code ≡ cell_refusal (model_of s) k i j → (code ≡ 0 → ⊥)
      → Performed s (set_cell k i j x) (wrote (refused code)) s
  unfolding effect cell_refusal
  set_refused x code e n =
      performed_refused s (effect (set_cell k i j x)) v code
      (applying_first (cell_cases (model_of s) k i j) (fit_cases (length s) (model_of s) k (with_value (model_of s) k i j x))
      code e n) n

  pub clear_refused : (code : ℕ) → code ≡ cell_refusal (model_of s) k i j → (code ≡ 0 → ⊥)
      → Performed s (clear_cell k i j) (wrote (refused code)) s
  unfolding effect cell_refusal
  clear_refused code e n = performed_refused s (effect (clear_cell k i j)) v code e n

-- it is: what the functions that write leave
module _ {s : List ℕ} {k i j end : ℕ} (h : Reached s k i j end) where
  grid_is : grid_at (model_of s) k ≡ grid_of (slot_at s k)
  grid_is = grid_model s k (λ e. let w = h.cell.held.whole in omega arith)

  revision_is : revision_at (model_of s) k ≡ revision (slot_at s k)
  revision_is = revision_model s k (λ e. let w = h.cell.held.whole in omega arith)

  pub set_performed : (x : ℕ) (answer : Answer) (s' : List ℕ) → CellSet s k i j x answer s'
      → Performed s (set_cell k i j x) (wrote answer) s'
  unfolding effect cell_refusal place_refusal
  set_performed x answer s' p =
      performed_placed updating s k _ _ h.checked.valid
      (applying_rest (cell_cases (model_of s) k i j)
      (fit_cases (length s) (model_of s) k (with_value (model_of s) k i j x)) (refl, (refl, (refl, tt))) h.free)
      (rw (revision_is, grid_is) p)

  pub clear_performed : (answer : Answer) (s' : List ℕ) → CellCleared s k i j answer s'
      → Performed s (clear_cell k i j) (wrote answer) s'
  unfolding effect cell_refusal
  clear_performed answer s' p = performed_put updating s k _ _ h.checked.valid h.free (rw (revision_is, grid_is) p)

-- ---- drop

-- no words are left in the slot
pub none_resized : (s : List ℕ) (k : ℕ) → resized s k 0 ≡ slot_put s k []
none_resized s k =
    let e = end_from k s in
    ap (slot_put s k)
    (ap (λ (n : ℕ). part (e + 1) n s) (add-zero (e + 1)) ∙ part_empty (e + 1) s)

-- the call, refused and accepted
module _ {s : List ℕ} {k : ℕ} (v : store_valid s ≡ true) where
  pub drop_refused : slot_count ≤ k → Performed s (drop_slot k) (wrote (refused invalid_store)) s
  unfolding effect
  drop_refused l =
      performed_refused s (effect (drop_slot k)) v invalid_store (rw (le-leb _ _ l)) (eqb-false invalid_store 0 refl)

  pub drop_performed : (s' : List ℕ) → k < slot_count → s' ≡ slot_put s k []
      → Performed s (drop_slot k) (wrote (accepted 0)) s'
  unfolding effect
  drop_performed s' l w =
      performed_done s (effect (drop_slot k)) v (rw (lt-leb _ _ l)) (wrote (accepted 0)) s' refl
      (w ∙ slot_written s k vacant (store_facts s v))
