-- What `negate` and `absolute` work out on a word is what they mean on its number. A local that holds `to_signed(x)` is a
-- number z with z ≡ signed x, which the machine keeps as the bits `of_z w32 z`.
use Rattle.std.proofs.Common.{◌≡◌, ℕ, zero, suc, ◌^◌, ◌<◌, true, false, ℤ, pos, negsuc, ◌-ℤ◌, neg_ℤ, sym, refl, ap, ◌∙◌, arith, w32, SFits, to_z, of_z}
use lib.IntN.{+ℤ_idl}
use lib.Dec.{leb-zero}
use lib.Signed.{le_z}
use mir.ValLaws.{to_z-of_z, of_z-to_z}
use Rattle.twos_complement.specs.TwosComplement.{signed, word, abs_ℤ}
use Rattle.twos_complement.specs.TwosComplement.{negative_of_smallest, absolute_of_smallest}
use Rattle.twos_complement.proofs.Words.{word_signed}
use Rattle.twos_complement.proofs.Casts.{signed_fits, read_word, read_back}

-- two answers of one test
false_true : false ≡ true → ⊥
false_true e = let z : ◌≡◌ {A = ℕ} 0 1 = cc in omega arith

-- AINV and ABS of a word x, whose number a local holds
module _ {x : ℕ} (hx : x < 2 ^ 32) {z : ℤ} (e : z ≡ signed x) where
  -- the exceptional value is the word 2147483648
  smallest : of_z w32 z ≡ 2147483648 → x ≡ 2147483648
  smallest t = sym (of_z-to_z w32 x (record { fits = hx })) ∙ ap (of_z w32) (read_word x hx ∙ sym e) ∙ t

  pub negate_smallest : of_z w32 z ≡ 2147483648 → x ≡ word (neg_ℤ (signed x))
  negate_smallest t = rw (smallest t) (sym negative_of_smallest)

  pub absolute_smallest : of_z w32 z ≡ 2147483648 → x ≡ word (abs_ℤ (signed x))
  absolute_smallest t = rw (smallest t) (sym absolute_of_smallest)

  -- the minus sign, for any other value
  minus : pos 0 -ℤ to_z w32 (of_z w32 z) ≡ neg_ℤ (signed x)
  minus = +ℤ_idl (neg_ℤ (to_z w32 (of_z w32 z))) ∙ ap neg_ℤ (read_back hx e)

  -- its result fits
  pub minus_fits : (of_z w32 z ≡ 2147483648 → ⊥) → SFits w32 (pos 0 -ℤ to_z w32 (of_z w32 z))
  minus_fits f = rw (minus, ← e) (by z (rw e (signed_fits hx)) f)
    where
      by : (k : ℤ) → SFits w32 k → (of_z w32 k ≡ 2147483648 → ⊥) → SFits w32 (neg_ℤ k)
      by (pos zero) h f = record { sfits = omega arith }
      by (pos (suc n)) h f = let l : suc n < 2 ^ 31 = h.sfits in record { sfits = omega arith }
      by (negsuc n) h f = let l : n < 2 ^ 31 = h.sfits in record { sfits = omega arith }

  -- and is the negative
  pub negate_is : (of_z w32 z ≡ 2147483648 → ⊥) → to_z w32 (of_z w32 (pos 0 -ℤ to_z w32 (of_z w32 z))) ≡ neg_ℤ (signed x)
  negate_is f = to_z-of_z w32 _ (minus_fits f) ∙ minus

  -- ABS keeps a number that is not negative, and is the negative of one that is
  pub absolute_nonneg : le_z (pos 0) (to_z w32 (of_z w32 z)) ≡ true → x ≡ word (abs_ℤ (signed x))
  absolute_nonneg t = sym (word_signed x hx) ∙ ap word (sym (by (signed x) (rw (read_back hx e) at t)))
    where
      by : (k : ℤ) → le_z (pos 0) k ≡ true → abs_ℤ k ≡ k
      by (pos n) t = refl
      by (negsuc n) t = absurd (false_true t)

  pub absolute_is : le_z (pos 0) (to_z w32 (of_z w32 z)) ≡ false → (of_z w32 z ≡ 2147483648 → ⊥)
      → to_z w32 (of_z w32 (pos 0 -ℤ to_z w32 (of_z w32 z))) ≡ abs_ℤ (signed x)
  absolute_is t f = negate_is f ∙ by (signed x) (rw (read_back hx e) at t)
    where
      by : (k : ℤ) → le_z (pos 0) k ≡ false → neg_ℤ k ≡ abs_ℤ k
      by (pos n) t = absurd (false_true (sym t ∙ leb-zero n))
      by (negsuc n) t = refl
