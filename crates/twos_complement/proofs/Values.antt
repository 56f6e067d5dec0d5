-- What `minimum`, `maximum` and `logical_not` work out on words is what they mean on numbers.
use Rattle.std.proofs.Common.{◌≡◌, ℕ, zero, suc, ◌+◌, ◌%◌, ◌^◌, ◌<◌, ◌≤◌, Bool, true, false, not, cond, ltb, leb, ℤ, pos, negsuc, neg_ℤ, refl, arith, w32, to_z, of_z, le-ltb, lt-ltb, le-leb}
use native.Mathlib.Decide.{dec_lt}
use lib.Dec.{eqb}
use lib.Signed.{le_z, lt_z}
use mir.Val.{bool_byte}
use borrow.Author.Tests.{lt-leb, ne_eqb}
use Rattle.std.specs.Int.{int_min, int_max}
use Rattle.twos_complement.specs.TwosComplement.{signed, word, min_ℤ, max_ℤ, not_ℤ}
use Rattle.twos_complement.proofs.Words.{signed_cases}
use Rattle.twos_complement.proofs.Casts.{read_back}

-- a test of less is a test of at most that fails
pub less_not : (a b : ℕ) → ltb a b ≡ not (leb b a)
less_not a b = go (dec_lt a b)
  where
    go : Dec (a < b) → ltb a b ≡ not (leb b a)
    go (yes l) = rw (lt-ltb a b l, lt-leb b a l)
    go (no n) = let l : b ≤ a = omega arith in rw (le-ltb a b l, le-leb b a l)

pub less_not_ℤ : (a b : ℤ) → lt_z a b ≡ not (le_z b a)
less_not_ℤ (pos a) (pos b) = less_not a b
less_not_ℤ (pos a) (negsuc b) = refl
less_not_ℤ (negsuc a) (pos b) = refl
less_not_ℤ (negsuc a) (negsuc b) = less_not b a

-- MIN and MAX as std has them
swapped : (v : Bool) (a b : ℤ) → cond (not v) a b ≡ cond v b a
swapped true a b = refl
swapped false a b = refl

smaller : (a b : ℤ) → int_min a b ≡ min_ℤ a b
smaller a b = rw (less_not_ℤ b a) (swapped (le_z a b) b a)

larger : (a b : ℤ) → int_max a b ≡ max_ℤ a b
larger a b = rw (less_not_ℤ b a) (swapped (le_z a b) a b)

-- of two words, whose numbers two locals hold
module _ {x y : ℕ} (hx : x < 2 ^ 32) (hy : y < 2 ^ 32) {a b : ℤ} (ea : a ≡ signed x) (eb : b ≡ signed y) where
  pub minimum_is : int_min (to_z w32 (of_z w32 a)) (to_z w32 (of_z w32 b)) ≡ min_ℤ (signed x) (signed y)
  minimum_is = rw (read_back hx ea, read_back hy eb) (smaller (signed x) (signed y))

  pub maximum_is : int_max (to_z w32 (of_z w32 a)) (to_z w32 (of_z w32 b)) ≡ max_ℤ (signed x) (signed y)
  maximum_is = rw (read_back hx ea, read_back hy eb) (larger (signed x) (signed y))

-- LNOT of the word 0, and of any other
pub not_is : (x : ℕ) → x < 2 ^ 32 → bool_byte (eqb x 0) ≡ word (not_ℤ (signed x))
unfolding not_ℤ word signed
not_is zero h = refl
not_is (suc n) h =
    rw (ne_eqb (suc n) 0 (λ e. absurd (omega arith)))
    (signed_cases (λ z. 0 ≡ word (not_ℤ z)) (suc n) h (λ l. refl) (λ g. refl))
