-- Laws of `and` and `all`: what a test that holds says of its parts, and how one is made. Cited by every test of a
-- format.
use Prim.Native.Nat.{ℕ, zero, suc, ◌+◌, ◌<◌}
use native.Mathlib.Omega.{arith}
use native.Mathlib.Nat.{not-suc-le-zero}
use native.Mathlib.Numerals.{add-one}
use native.Mathlib.Decide.{dec_lt}
use mathlib.Core.Path.{◌≡◌, refl, sym, ◌∙◌}
use mathlib.Core.Bool.{Bool, true, false, false≢true}
use Rattle.conditions.specs.Tests.{all, ◌and◌}

-- a test that cannot hold is false: how a refusing return is proved
pub refuted : (b : Bool) → (b ≡ true → ⊥) → b ≡ false
refuted true f = absurd (f refl)
refuted false f = refl

-- the first part of a test that holds
pub and_left : (a b : Bool) → (a and b) ≡ true → a ≡ true
unfolding ◌and◌
and_left true b h = refl
and_left false b h = h

-- the second part of a test that holds
pub and_right : (a b : Bool) → (a and b) ≡ true → b ≡ true
unfolding ◌and◌
and_right true b h = h
and_right false b h = absurd (false≢true h)

-- a test whose two parts hold
pub and_both : {a b : Bool} → a ≡ true → b ≡ true → (a and b) ≡ true
unfolding ◌and◌
and_both {a} {b} p q = rw (p, q)

-- tests may be grouped otherwise
pub and_assoc : (a b c : Bool) → ((a and b) and c) ≡ (a and (b and c))
unfolding ◌and◌
and_assoc true b c = refl
and_assoc false b c = refl

-- what a function's Boolean result said of the test that it stands for, after `if !f(..)`
pub said_no : {r b : Bool} → r ≡ b → r ≡ false → b ≡ false
said_no e t = sym e ∙ t

pub said_yes : {r b : Bool} → r ≡ b → r ≡ true → b ≡ true
said_yes e t = sym e ∙ t

-- where a loop over the numbers starts
pub all_none : (p : ℕ → Bool) → all 0 p ≡ true
unfolding all
all_none p = refl

-- a turn of such a loop
pub all_more : (p : ℕ → Bool) (i : ℕ) → all i p ≡ true → p i ≡ true → all (i + 1) p ≡ true
unfolding all
all_more p i h k = rw (add-one i) (and_both h k)

-- a turn of a loop that goes on after a failure, and keeps in a flag whether there was none
pub all_kept : (p : ℕ → Bool) (i : ℕ) (b : Bool) → b ≡ all i p → p i ≡ true → b ≡ all (i + 1) p
unfolding all ◌and◌
all_kept p i true e h = sym (all_more p i (sym e) h)
all_kept p i false e h = rw (add-one i, ← e)

-- what `all` says at one number
pub all_at : (p : ℕ → Bool) (n i : ℕ) → i < n → all n p ≡ true → p i ≡ true
unfolding all
all_at p zero i l h = absurd (not-suc-le-zero l)
all_at p (suc n) i l h = go (dec_lt i n) (λ k. all_at p n i k (and_left (all n p) (p n) h))
  where
    go : Dec (i < n) → (i < n → p i ≡ true) → p i ≡ true
    go (yes k) r = r k
    go (no k) r = let e : i ≡ n = omega arith in rw e (and_right (all n p) (p n) h)

-- one failure below n fails the test of all
pub all_not : (p : ℕ → Bool) (n i : ℕ) → i < n → p i ≡ false → all n p ≡ false
all_not p n i l f = refuted (all n p) (λ h. false≢true (sym f ∙ all_at p n i l h))

-- `all` from the test at each number
pub all_made : (p : ℕ → Bool) (n : ℕ) → ((i : ℕ) → i < n → p i ≡ true) → all n p ≡ true
unfolding all
all_made p zero h = refl
all_made p (suc n) h = and_both (all_made p n (λ i l. h i (omega arith))) (h n (omega arith))
