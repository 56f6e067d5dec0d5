-- 13: the slots that the digits of a text name.
use Prim.Native.Nat.{ℕ, zero, suc, ◌-◌, ◌≤◌, ◌<◌}
use native.Mathlib.Omega.{arith}
use native.Mathlib.Decide.{dec_le}
use mathlib.Core.Path.{◌≡◌, refl, sym, ap, ◌∙◌}
use mathlib.Core.Bool.{Bool, true, false, cond, not, false≢true}
use mathlib.Core.List.{List, [], ◌∷◌}
use lib.ListN.{length, get_or}
use lib.Dec.{eqb}
use borrow.Author.Tests.{not-true, not-false, le-leb, lt-leb, eqb-false}
use Rattle.std.specs.Bool.{MatchBool}
use Rattle.std.specs.List.{AllWithin, HoldsAt}
use Rattle.conditions.specs.Tests.{◌and◌}
use Rattle.matrix.specs.Layout.{revision, grid_of}
use Rattle.slots.specs.Sections.{slot_at}
use Rattle.slots.specs.Facts.{Held, Store}
use Rattle.slots.proofs.Facts.{held_facts}
use Rattle.formula_values.specs.Values.{worth, fails, disagree}
use Rattle.formula_evaluation.specs.Evaluating.{slot_worth}
use Rattle.model.specs.Model.{vacant, holding, Model, slot_of, is_vacant}
use Rattle.model.specs.Formulas.{slot_value, vacant_byte, names_vacant}
use Rattle.store_encoding.specs.Stores.{model_of}
use Rattle.store_encoding.proofs.Held.{slot_model}

-- ---- a slot of the model, by its words
-- it is vacant where it has none
vacant_by : (b : Bool) (x : List ℕ) → is_vacant (cond b vacant (holding (revision x) (grid_of x))) ≡ b
vacant_by true x = refl
vacant_by false x = refl

pub vacant_is : (s : List ℕ) (k : ℕ) → is_vacant (slot_of (model_of s) k) ≡ eqb (length (slot_at s k)) 0
vacant_is s k = ap is_vacant (slot_model s k) ∙ vacant_by (eqb (length (slot_at s k)) 0) (slot_at s k)

-- and is worth what they are
worth_by : (b : Bool) (x : List ℕ)
    → slot_value (cond b vacant (holding (revision x) (grid_of x))) ≡ cond b (fails disagree) (worth (grid_of x))
worth_by true x = refl
worth_by false x = refl

pub slot_worth_is : (s : List ℕ) (n : ℕ) → slot_value (slot_of (model_of s) n) ≡ slot_worth s n
slot_worth_is s n = ap slot_value (slot_model s n) ∙ worth_by (eqb (length (slot_at s n)) 0) (slot_at s n)

-- ---- one byte: the answers of `byte_held`
module _ (s : List ℕ) (c : ℕ) where
  -- below the digits
  byte_low : c < 48 → vacant_byte (model_of s) c ≡ false
  unfolding ◌and◌
  byte_low l = rw (lt-leb 48 c l) refl

  -- above 7
  byte_high : 48 ≤ c → 55 < c → vacant_byte (model_of s) c ≡ false
  unfolding ◌and◌
  byte_high l h = rw (le-leb 48 c l, lt-leb c 55 h) refl

  -- no digit 0 to 7
  pub byte_other : (48 ≤ c → c ≤ 55 → ⊥) → vacant_byte (model_of s) c ≡ false
  byte_other n = go (dec_le 48 c)
    where
      go : Dec (48 ≤ c) → vacant_byte (model_of s) c ≡ false
      go (yes l) = byte_high l (omega (arith, n l))
      go (no l) = byte_low (omega arith)

  -- a digit: its slot tells
  digit_is : 48 ≤ c → c ≤ 55 → vacant_byte (model_of s) c ≡ is_vacant (slot_of (model_of s) (c - 48))
  unfolding ◌and◌
  digit_is l h = rw (le-leb 48 c l, le-leb c 55 h) refl

  -- it is vacant where the slot has no words
  pub byte_digit : 48 ≤ c → c ≤ 55 → vacant_byte (model_of s) c ≡ eqb (length (slot_at s (c - 48))) 0
  byte_digit l h = digit_is l h ∙ vacant_is s (c - 48)

  -- a digit that names no empty slot names a matrix: for `evaluable_lent`
  pub names_held : Store s → 48 ≤ c → c ≤ 55 → vacant_byte (model_of s) c ≡ false → Held (slot_at s (c - 48))
  names_held h l m e =
      held_facts (slot_at s (c - 48)) (h.contents (c - 48) (omega arith))
      (eqb-false (length (slot_at s (c - 48))) 0 (sym (digit_is l m ∙ vacant_is s (c - 48)) ∙ e))

-- ---- all bytes: `all_held`
module _ (m : Model) where
  -- no byte names an empty slot
  names_none : (text : List ℕ) → ((k : ℕ) → k < length text → vacant_byte m (get_or text k 0) ≡ false)
      → names_vacant m text ≡ false
  unfolding names_vacant
  names_none [] h = refl
  names_none (c ∷ x) h =
      let e : vacant_byte m c ≡ false = h 0 (omega arith) in
      rw e (names_none x (λ k l. h (suc k) (omega arith)))

  -- byte k does
  names_some : (text : List ℕ) (k : ℕ) → k < length text → vacant_byte m (get_or text k 0) ≡ true
      → names_vacant m text ≡ true
  unfolding names_vacant
  names_some [] k l e = absurd (omega arith)
  names_some (c ∷ x) zero l e = rw e refl
  names_some (c ∷ x) (suc k) l e = by (vacant_byte m c) (names_some x k (omega arith) e)
    where
      by : (b : Bool) → names_vacant m x ≡ true → cond b true (names_vacant m x) ≡ true
      by true h = refl
      by false h = h

  pub all_tell : (text : List ℕ) (r : Bool)
      → MatchBool r (AllWithin (λ x. true ≡ not (vacant_byte m x)) text 0 (length text))
      ((k : ℕ) × (k < length text) × HoldsAt (λ x. false ≡ not (vacant_byte m x)) text k)
      → r ≡ not (names_vacant m text)
  all_tell text true h = sym (ap not (names_none text (λ k l. not-true _ (sym (h k 0 (omega arith) l)))))
  all_tell text false h = sym (ap not (names_some text h.0 h.1 (not-false _ (sym (h.2 0)))))

  -- where the text names no empty slot, none of its bytes does
  pub all_named : (text : List ℕ) → names_vacant m text ≡ false → (p : ℕ) → p < length text
      → vacant_byte m (get_or text p 0) ≡ false
  unfolding names_vacant
  all_named [] e p l = absurd (omega arith)
  all_named (c ∷ x) e zero l = first (vacant_byte m c) (names_vacant m x) e
    where
      first : (b r : Bool) → cond b true r ≡ false → b ≡ false
      first true r h = absurd (false≢true (sym h))
      first false r h = refl
  all_named (c ∷ x) e (suc p) l = all_named x (rest (vacant_byte m c) (names_vacant m x) e) p (omega arith)
    where
      rest : (b r : Bool) → cond b true r ≡ false → r ≡ false
      rest true r h = absurd (false≢true (sym h))
      rest false r h = h
