-- Laws of stamps: one after another, and the one of a single place.
use Rattle.std.proofs.Common.{Some}
use Prim.Native.Nat.{ℕ, zero, suc, ◌+◌, ◌≤◌, ◌<◌}
use native.Mathlib.Omega.{arith}
use native.Mathlib.Numerals.{add-one}
use native.Mathlib.Decide.{ℕ_discrete}
use mathlib.Core.Path.{◌≡◌, refl, sym, ap, ◌∙◌}
use mathlib.Core.List.{List, [], ◌∷◌}
use mathlib.Core.Bool.{Bool, true, false, cond}
use lib.ListN.{length, take, set, length-set}
use lib.Seq.{get_or-set_same, get_or-set_other}
use lib.Dec.{eqb}
use borrow.Author.Tests.{eq-eqb, ne_eqb}
use Rattle.words.specs.Words.{at}
use Rattle.rows.specs.Row.{lookup}
use Rattle.key_rounds.specs.Rounds.{filled, ◌or◌}
use Rattle.key_rounds.proofs.Tests.{or_none, or_assoc}
use Rattle.key_marks.specs.Marks.{mark, once, has, Stamped}

pub mark_zero : (w : ℕ) → w ≡ 0 → mark w ≡ false
unfolding mark
mark_zero w e = rw (eq-eqb w 0 e)

pub mark_other : (w : ℕ) → (w ≡ 0 → ⊥) → mark w ≡ true
unfolding mark
mark_other w e = rw (ne_eqb w 0 e)

pub once_zero : (s w : ℕ) → w ≡ 0 → once s w ≡ s
unfolding once
once_zero s w e = rw (eq-eqb w 0 e)

pub once_other : (s w : ℕ) → (w ≡ 0 → ⊥) → once s w ≡ w
unfolding once
once_other s w e = rw (ne_eqb w 0 e)

-- a second stamp changes nothing
once_twice : (s w : ℕ) → 1 ≤ s → once s (once s w) ≡ once s w
once_twice s w l = go (ℕ_discrete w 0)
  where
    go : Dec (w ≡ 0) → once s (once s w) ≡ once s w
    go (yes e) = rw (once_zero s w e) (once_other s s (λ z. omega arith))
    go (no e) = rw (once_other s w e) (once_other s w e)

-- a stamped word is marked
pub mark_once : (s w : ℕ) → 1 ≤ s → mark (once s w) ≡ true
mark_once s w l = go (ℕ_discrete w 0)
  where
    go : Dec (w ≡ 0) → mark (once s w) ≡ true
    go (yes e) = rw (once_zero s w e) (mark_other s (λ z. omega arith))
    go (no e) = rw (once_other s w e) (mark_other w e)

stamp_twice : (s w : ℕ) (p q : Bool) → 1 ≤ s
    → cond q (once s (cond p (once s w) w)) (cond p (once s w) w) ≡ cond (p or q) (once s w) w
unfolding ◌or◌
stamp_twice s w true true l = once_twice s w l
stamp_twice s w true false l = refl
stamp_twice s w false q l = refl

-- the marks after a stamp
pub mark_stamped : (s w : ℕ) (p : Bool) → 1 ≤ s → mark (cond p (once s w) w) ≡ (mark w or p)
unfolding ◌or◌
mark_stamped s w true l = mark_once s w l ∙ go (mark w)
  where
    go : (b : Bool) → true ≡ (b or true)
    go true = refl
    go false = refl
mark_stamped s w false l = sym (or_none (mark w))

module _ {s : ℕ} where
  -- nothing is hit
  pub stamped_none : (hit : ℕ → Bool) (old : List ℕ) → ((j : ℕ) → hit j ≡ false) → Stamped s hit old old
  stamped_none hit old h = record { size = refl; word = λ j l. rw (h j) }

  -- the same places
  pub stamped_same : {p q : ℕ → Bool} {old new : List ℕ} → Stamped s p old new → ((j : ℕ) → p j ≡ q j)
      → Stamped s q old new
  stamped_same {p} {q} h e = record { size = h.size; word = λ j l. rw (← (e j)) (h.word j l) }

  -- one place
  pub stamped_one : (old : List ℕ) (c : ℕ) {w : ℕ} → c < length old → w ≡ once s (at old c)
      → Stamped s (λ j. eqb c j) old (set old c w)
  stamped_one old c {w} l h = record { size = length-set old c w; word = λ j m. go j (ℕ_discrete c j) }
    where
      go : (j : ℕ) → Dec (c ≡ j) → at (set old c w) j ≡ cond (eqb c j) (once s (at old j)) (at old j)
      go j (yes e) = rw (eq-eqb c j e, ← e) (get_or-set_same old c w 0 l ∙ h)
      go j (no e) = rw (ne_eqb c j e) (get_or-set_other old c j w 0 (λ z. e (sym z)))

  -- two after one another
  pub stamped_then : {p q : ℕ → Bool} {old mid new : List ℕ} → 1 ≤ s → Stamped s p old mid → Stamped s q mid new
      → Stamped s (λ j. p j or q j) old new
  stamped_then {p} {q} {old} l a b = record {
    size = b.size ∙ a.size;
    word = λ j m. b.word j (rw a.size m) ∙ rw (a.word j m) (stamp_twice s (at old j) (p j) (q j) l);
  }

-- before the first column number
pub has_none : (cols : List ℕ) (j : ℕ) → has (take 0 cols) j ≡ false
unfolding has
has_none cols j = refl

-- one column number more
has_more : (cols : List ℕ) (p j : ℕ) → p < length cols
    → (has (take p cols) j or eqb (at cols p) j) ≡ has (take (suc p) cols) j
unfolding has ◌or◌
has_more [] p j l = absurd (omega arith)
has_more (c ∷ cols) zero j l = sym (or_none (eqb c j))
has_more (c ∷ cols) (suc p) j l = or_assoc (eqb c j) _ _ ∙ ap (λ (b : Bool). eqb c j or b)
    (has_more cols p j (omega arith))

pub has_next : (cols : List ℕ) (p j : ℕ) → p < length cols
    → (has (take p cols) j or eqb (at cols p) j) ≡ has (take (p + 1) cols) j
has_next cols p j l = has_more cols p j l ∙ ap (λ (i : ℕ). has (take i cols) j) (sym (add-one p))

-- a column number is there where the row has an entry
pub has_lookup : (cols vals : List ℕ) (j : ℕ) → length vals ≡ length cols → has cols j ≡ filled (lookup cols vals j)
unfolding has lookup filled ◌or◌
has_lookup [] vals j e = refl
has_lookup (c ∷ cols) [] j e = absurd (omega arith)
has_lookup (c ∷ cols) (v ∷ vals) j e = go (eqb c j) (has_lookup cols vals j (omega arith))
  where
    go : (b : Bool) → has cols j ≡ filled (lookup cols vals j)
        → (b or has cols j) ≡ filled (cond b (Some v) (lookup cols vals j))
    go true h = refl
    go false h = h
