-- The tests of a store and the facts that they stand for, both ways. Every use of validity goes through these.
use Prim.Native.Nat.{ℕ, ◌-◌, ◌<◌}
use native.Mathlib.Omega.{arith}
use mathlib.Core.Path.{◌≡◌, refl, sym, ap, ◌∙◌}
use mathlib.Core.Bool.{Bool, true, false, cond}
use mathlib.Core.List.{List}
use lib.ListN.{length, drop, replicate, length-drop, length-replicate, get_or-replicate}
use lib.Seq.{ext_get_or}
use lib.Dec.{eqb}
use borrow.Author.Tests.{le-leb, eq-eqb, ne_eqb, leb-true, eqb-true}
use Rattle.limits.specs.Limits.{slot_count}
use Rattle.words.specs.Words.{at}
use Rattle.conditions.specs.Tests.{◌and◌}
use Rattle.conditions.proofs.Tests.{and_left, and_right, and_both, all_at, all_made}
use Rattle.matrix.specs.Layout.{size}
use Rattle.matrix.specs.Valid.{valid}
use Rattle.matrix.proofs.Facts.{matrix_facts, matrix_made}
use Rattle.slots.specs.Sections.{end_from, all_zero, sectioned, slot_at}
use Rattle.slots.specs.Valid.{contents_valid, all_contents_valid, store_valid}
use Rattle.slots.specs.Facts.{Sections, Held, Store}

-- the test of one word, and of one slot
abbrev zero_at : List ℕ → ℕ → Bool
zero_at s i = eqb (at s i) 0

abbrev pub valid_at : List ℕ → ℕ → Bool
valid_at s k = contents_valid (slot_at s k)

-- ---- zeros

pub zeros_at : (s : List ℕ) → all_zero s ≡ true → (i : ℕ) → i < length s → at s i ≡ 0
unfolding all_zero
zeros_at s h i l = eqb-true _ _ (all_at (zero_at s) (length s) i l h)

zeros_facts : (s : List ℕ) → all_zero s ≡ true → s ≡ replicate (length s) 0
zeros_facts s h =
    ext_get_or 0 s (replicate (length s) 0) (sym (length-replicate (length s) 0))
    (λ i l. zeros_at s h i l ∙ sym (get_or-replicate (length s) i 0 0 l))

pub zeros_made : (s : List ℕ) → ((i : ℕ) → i < length s → at s i ≡ 0) → all_zero s ≡ true
unfolding all_zero
zeros_made s h = all_made (zero_at s) (length s) (λ i l. eq-eqb _ _ (h i l))

-- ---- sections

pub sections_facts : (k : ℕ) (s : List ℕ) → sectioned k s ≡ true → Sections k s
unfolding sectioned
sections_facts k s h =
    record {
      within = leb-true _ _ (and_left _ _ h);
      zeros =
          zeros_facts (drop (end_from k s) s) (and_right _ _ h)
          ∙ ap (λ (n : ℕ). replicate n 0) (length-drop (end_from k s) s);
    }

pub sections_made : (k : ℕ) (s : List ℕ) → Sections k s → sectioned k s ≡ true
unfolding sectioned
sections_made k s h =
    let d = length-drop (end_from k s) s in
    and_both (le-leb _ _ h.within)
    (zeros_made (drop (end_from k s) s)
    (λ i l. ap (λ (t : List ℕ). at t i) h.zeros ∙ get_or-replicate (length s - end_from k s) i 0 0 (omega arith)))

-- ---- the contents of a slot

-- an empty slot is valid
pub empty_valid : (x : List ℕ) → length x ≡ 0 → contents_valid x ≡ true
unfolding contents_valid
empty_valid x e = rw (eq-eqb _ _ e)

pub held_made : (x : List ℕ) → Held x → contents_valid x ≡ true
unfolding contents_valid
held_made x h = go (eqb (length x) 0) (and_both (matrix_made x h.matrix) (eq-eqb _ _ h.whole))
  where
    go : (b : Bool) {c : Bool} → c ≡ true → cond b true c ≡ true
    go true e = refl
    go false e = e

-- a slot that is not empty holds a matrix
pub held_facts : (x : List ℕ) → contents_valid x ≡ true → (length x ≡ 0 → ⊥) → Held x
unfolding contents_valid
held_facts x h e =
    let b : Bool = valid x and eqb (size x) (length x) in
    let v : b ≡ true = sym (ap (λ (a : Bool). cond a true b) (ne_eqb (length x) 0 e)) ∙ h in
    record { matrix = matrix_facts x (and_left _ _ v); whole = eqb-true _ _ (and_right _ _ v) }

-- ---- a store

pub store_facts : (s : List ℕ) → store_valid s ≡ true → Store s
unfolding store_valid all_contents_valid
store_facts s h₀ =
    let h₁ = and_right _ _ h₀ in
    let h₂ = and_right _ _ h₁ in
    record {
      least = leb-true _ _ (and_left _ _ h₀);
      most = leb-true _ _ (and_left _ _ h₁);
      sections = sections_facts slot_count s (and_left _ _ h₂);
      contents = λ k l. all_at (valid_at s) slot_count k l (and_right _ _ h₂);
    }

pub store_made : (s : List ℕ) → Store s → store_valid s ≡ true
unfolding store_valid all_contents_valid
store_made s h =
    and_both (le-leb _ _ h.least) (and_both (le-leb _ _ h.most)
    (and_both (sections_made slot_count s h.sections) (all_made (valid_at s) slot_count h.contents)))
