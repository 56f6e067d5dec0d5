-- What a function that works out a phrase lends on, and what it learns of the answer.
use Prim.Native.Nat.{ℕ, ◌+◌, ◌-◌, ◌≤◌, ◌<◌}
use native.Mathlib.Omega.{arith}
use mathlib.Core.Path.{◌≡◌, refl, sym, ap, ◌∙◌}
use mathlib.Core.List.{List, ◌++◌, append-nil}
use lib.ListN.{length, drop}
use lib.Seq.{drop-length}
use borrow.Author.Tests.{ne_eqb}
use Rattle.grid.specs.Grid.{Grid}
use Rattle.matrix.specs.Layout.{revision, grid_of, max_matrix_words}
use Rattle.matrix.specs.HeaderWords.{with_revision}
use Rattle.matrix.proofs.Facts.{matrix_made}
use Rattle.encoding.specs.Encode.{encode_revised}
use Rattle.encoding.proofs.Canonical.{valid_encoded, valid_within, encode_length}
use Rattle.words.specs.Words.{overwrite}
use Rattle.slots.specs.Sections.{slot_at}
use Rattle.slots.specs.Facts.{Held}
use Rattle.formula_values.specs.Values.{worth}
use Rattle.formula_evaluation.specs.Evaluating.{slot_worth, Standing, Lent, LentOn}
use Rattle.formula_evaluation.proofs.Standing.{behind, behind_length, size_most, copied_standing}

-- ---- what is lent on
module _ {text : List ℕ} {at d : ℕ} {s w : List ℕ} where
  -- by a formula to its first term
  pub lent_term : Lent 4 text at d s w → Lent 3 text at d s w
  lent_term h = record { place = h.place; room = omega (arith, h.room); store = h.store; held = h.held }

  -- by a term to its first factor
  pub lent_factor : Lent 3 text at d s w → Lent 2 text at d s w
  lent_factor h = record { place = h.place; room = omega (arith, h.room); store = h.store; held = h.held }

  -- by `more_terms` to the next term, behind the sum so far
  pub behind_term : Lent 4 text at d s w → at < length text → Lent 3 text (at + 1) d s (behind w)
  behind_term h l =
      let r = h.room in
      let k : max_matrix_words ≤ length w = omega arith in
      record {
        place = omega arith;
        room = omega (arith, behind_length w w k);
        store = h.store;
        held = h.held;
      }

  -- by `more_factors` to the next factor, behind the product so far
  pub behind_factor : Lent 3 text at d s w → at < length text → Lent 2 text (at + 1) d s (behind w)
  behind_factor h l =
      let r = h.room in
      let k : max_matrix_words ≤ length w = omega arith in
      record {
        place = omega arith;
        room = omega (arith, behind_length w w k);
        store = h.store;
        held = h.held;
      }

  -- by a factor to the formula in its brackets
  pub lent_inner : Lent 2 text at d s w → (d ≡ 0 → ⊥) → at < length text → Lent 4 text (at + 1) (d - 1) s w
  lent_inner h n l =
      record { place = omega arith; room = omega (arith, h.room); store = h.store; held = h.held }

  -- to what goes on from p, with a grid at the front
  pub lent_on : {k : ℕ} → Lent k text at d s w → (p : ℕ) (w' : List ℕ) → p ≤ length text → length w' ≡ length w
      → (g : Grid) × Standing g w' → LentOn k text p d s w'
  lent_on h p w' l e g = record {
    lent = record { place = l; room = omega (arith, h.room); store = h.store; held = h.held };
    some_grid = g;
  }

-- ---- a slot's matrix
-- its words are the writing of its grid
held_encoded : (x : List ℕ) → Held x → encode_revised (revision x) (grid_of x) ≡ x
held_encoded x h =
    let v = valid_encoded x (matrix_made x h.matrix) in
    let w = encode_revised (revision x) (grid_of x) in
    sym (v ∙ ap (λ (k : ℕ). w ++ drop k x) h.whole ∙ ap (λ (t : List ℕ). w ++ t) (drop-length x) ∙ append-nil w)

module _ (x : List ℕ) (h : Held x) where
  -- they are no more than a region
  pub held_long : length x ≤ max_matrix_words
  held_long =
      omega (
        arith,
        ap length (held_encoded x h),
        encode_length (revision x) (grid_of x),
        size_most (grid_of x) (valid_within x (matrix_made x h.matrix)),
      )

  -- and some
  held_some : length x ≡ 0 → ⊥
  held_some z = omega (arith, ap length (held_encoded x h), encode_length (revision x) (grid_of x))

  -- `load` copies them, with the revision 0
  pub held_standing : (w : List ℕ) → max_matrix_words ≤ length w
      → Standing (grid_of x) (with_revision 0 (overwrite 0 x w))
  held_standing w l =
      copied_standing x w (revision x) (grid_of x) (valid_within x (matrix_made x h.matrix)) (held_encoded x h)
      (omega (arith, held_long))

-- the slot is worth its grid
pub held_worth : (s : List ℕ) (k : ℕ) → Held (slot_at s k) → slot_worth s k ≡ worth (grid_of (slot_at s k))
held_worth s k h = rw (ne_eqb (length (slot_at s k)) 0 (held_some (slot_at s k) h)) refl
