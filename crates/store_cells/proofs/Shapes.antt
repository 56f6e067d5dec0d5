-- An empty matrix in a slot: 12, 8 and 11 as the code reaches them, and the call.
use Prim.Native.Nat.{ℕ, ◌≤◌, ◌<◌}
use mathlib.Core.Path.{◌≡◌, refl, sym, ap, subst, ◌∙◌}
use mathlib.Core.Bool.{Bool, true, false}
use mathlib.Core.List.{List, [], ◌∷◌, ◌++◌}
use lib.ListN.{length, take}
use lib.Seq.{take_at}
use borrow.Author.Tests.{le-leb, lt-leb, lt-ltb, le-ltb, leb-true, leb-false, not-false, eqb-false}
use Rattle.conditions.specs.Tests.{◌and◌}
use Rattle.conditions.proofs.Tests.{and_left}
use Rattle.limits.specs.Limits.{slot_count, max_rows, max_cols}
use Rattle.limits.specs.Sizes.{size_of}
use Rattle.limits.specs.Ranges.{in_range}
use Rattle.limits.proofs.Ranges.{range_facts}
use Rattle.answers.specs.Refusals.{accepted, refused, invalid_shape, insufficient_space, invalid_store}
use Rattle.grid.specs.Revision.{making}
use Rattle.grid.specs.Grid.{empty_grid}
use Rattle.grid.proofs.Counts.{empty_count}
use Rattle.encoding.specs.Encode.{encode}
use Rattle.encoding.proofs.Canonical.{encode_length}
use Rattle.refusals.proofs.Cases.{later, applying_first, applying_rest}
use Rattle.slots.specs.Valid.{store_valid}
use Rattle.slots.specs.Room.{words_with, Filled}
use Rattle.model.specs.Model.{holding, needed_with}
use Rattle.model.specs.Effects.{wrote}
use Rattle.model.specs.Calls.{new_empty, shape_cases, no_room, effect}
use Rattle.store_encoding.specs.Stores.{model_of, Performed}
use Rattle.store_encoding.proofs.Held.{needed_model}
use Rattle.store_encoding.proofs.Performed.{performed_refused}
use Rattle.store_cells.specs.Slots.{shape_refusal, Layable}
use Rattle.store_cells.proofs.Checks.{Checked}
use Rattle.store_cells.proofs.Outcomes.{performed_put}

-- the size of an empty matrix
pub empty_size : (r c : ℕ) → length (encode (empty_grid r c)) ≡ size_of r 0
empty_size r c = encode_length 0 (empty_grid r c) ∙ ap (size_of r) (empty_count r c)

-- its words at the front of others
pub empty_front : (r c : ℕ) (t : List ℕ) → take (size_of r 0) (encode (empty_grid r c) ++ t) ≡ encode (empty_grid r c)
empty_front r c t = take_at (encode (empty_grid r c)) t (size_of r 0) (empty_size r c)

-- the same words by another name
pub filled_by : {s x y s' : List ℕ} {k : ℕ} {r : Bool} → x ≡ y → Filled s k x r s' → Filled s k y r s'
filled_by {s} {x} {y} {s'} {k} {r} e f = subst (λ (z : List ℕ). Filled s k z r s') e f

module _ (k r c : ℕ) where
  -- 12
  pub slot_refused : slot_count ≤ k → invalid_store ≡ shape_refusal k r c
  unfolding shape_refusal
  slot_refused l = rw (le-leb _ _ l)

  module _ (l : k < slot_count) where
    -- 8, by the rows and by the columns
    pub rows_refused : in_range max_rows r ≡ false → invalid_shape ≡ shape_refusal k r c
    unfolding shape_refusal ◌and◌
    rows_refused e = rw (lt-leb _ _ l, e)

    module _ (e : in_range max_rows r ≡ true) where
      pub cols_refused : in_range max_cols c ≡ false → invalid_shape ≡ shape_refusal k r c
      unfolding shape_refusal ◌and◌
      cols_refused f = rw (lt-leb _ _ l, e, f)

      -- neither
      pub shape_there : in_range max_cols c ≡ true → 0 ≡ shape_refusal k r c
      unfolding shape_refusal ◌and◌
      shape_there f = rw (lt-leb _ _ l, e, f)

-- where neither applies, the matrix may be laid
pub layable : (s : List ℕ) (k end r c : ℕ) → Checked s end → shape_refusal k r c ≡ 0 → Layable s k end r
unfolding shape_refusal
layable s k end r c h z =
    let a = later _ invalid_store _ refl z in
    let b = later _ invalid_shape 0 refl a.rest in
    let t = not-false (in_range max_rows r and in_range max_cols c) b.here in
    record {
      store = h.store;
      slot = leb-false _ _ a.here;
      ends = h.ends;
      rows = (range_facts _ _ (and_left _ _ t)).most;
    }

-- the call: refused by 12 or 8
module _ (s : List ℕ) (k r c : ℕ) where
  pub lay_refused : store_valid s ≡ true → (code : ℕ) → code ≡ shape_refusal k r c → (code ≡ 0 → ⊥)
      → Performed s (new_empty k r c) (wrote (refused code)) s
  unfolding effect shape_refusal
  lay_refused v code e n =
      performed_refused s (effect (new_empty k r c)) v code
      (applying_first (shape_cases k r c) (no_room (length s) (model_of s) k (empty_grid r c) ∷ []) code e n) n

  -- past them
  module _ {end : ℕ} (h : Checked s end) (z : shape_refusal k r c ≡ 0) where
    -- the words that are needed, as the model and as `put` count them
    needed : needed_with (model_of s) k (empty_grid r c)
        ≡ words_with s k (length (encode (empty_grid r c)))
    needed = needed_model s k (holding 0 (empty_grid r c)) h.store (layable s k end r c h z).slot

    -- 11
    pub lay_no_room : {s' : List ℕ} {b : Bool} → b ≡ false → Filled s k (encode (empty_grid r c)) b s'
        → Performed s (new_empty k r c) (wrote (refused insufficient_space)) s'
    unfolding effect shape_refusal
    lay_no_room {s'} {b} e f =
        let w : s' ≡ s = f.words_are ∙ rw e in
        let l : length s < words_with s k (length (encode (empty_grid r c))) = leb-false _ _ (sym f.room_is ∙ e) in
        rw w (performed_refused s (effect (new_empty k r c)) h.valid insufficient_space
        (sym (applying_rest (shape_cases k r c) (no_room (length s) (model_of s) k (empty_grid r c) ∷ [])
        (refl, (refl, tt)) z ∙ rw (needed, lt-ltb _ _ l)))
        (eqb-false insufficient_space 0 refl))

    -- accepted
    pub lay_performed : {s' : List ℕ} {b : Bool} → b ≡ true → Filled s k (encode (empty_grid r c)) b s'
        → Performed s (new_empty k r c) (wrote (accepted 0)) s'
    unfolding effect shape_refusal
    lay_performed {s'} {b} e f =
        let l : words_with s k (length (encode (empty_grid r c))) ≤ length s = leb-true _ _ (sym f.room_is ∙ e) in
        performed_put making s k _ _ h.valid
        (applying_rest (shape_cases k r c) (no_room (length s) (model_of s) k (empty_grid r c) ∷ [])
        (refl, (refl, tt)) z ∙ rw (needed, le-ltb _ _ l))
        (record { answer_is = ap accepted (sym (empty_count r c)); words_are = f.words_are ∙ rw e })
