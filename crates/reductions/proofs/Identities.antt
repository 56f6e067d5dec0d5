-- "the monoid's identity": it changes no value, from either side. So a total that begins with it is the total of the values.
use Prim.Native.Nat.{ℕ, ◌^◌, ◌<◌}
use native.Mathlib.Omega.{arith}
use mathlib.Core.Path.{◌≡◌, refl, ap, ◌∙◌}
use mathlib.Core.List.{List, ◌∷◌}
use mathlib.Core.Bool.{Bool, true, false, cond}
use lib.IntN.{ℤ, pos, one, ◌*ℤ◌, +ℤ_idl, +ℤ_idr, *ℤ-one, *ℤ_comm}
use lib.Dec.{leb}
use borrow.Author.Tests.{leb-true, leb-false}
use Rattle.twos_complement.specs.TwosComplement.{signed, word}
use Rattle.twos_complement.proofs.Words.{word_signed}
use Rattle.operators.specs.declared.Monoid.{Monoid}
use Rattle.operators.specs.declared.Monoid.TheVariants.{Plus, Times, Min, Max}
use Rattle.operators.specs.Operators.{binary_word, monoid_op}
use Rattle.operators.proofs.Larger.{rank, rank_one, rank_order}
use Rattle.reductions.specs.Reductions.{identity_word, total}

-- 0 and 1 as numbers
zero_number : signed 0 ≡ pos 0
unfolding signed
zero_number = refl

one_number : signed 1 ≡ pos 1
unfolding signed
one_number = refl

times_one : (z : ℤ) → z *ℤ pos 1 ≡ z
unfolding one
times_one z = *ℤ-one z

module _ (x : ℕ) (h : x < 2 ^ 32) where
  -- of two words by their order: the one that is taken is x, where they are as large as each other
  chosen : (b : Bool) (p q : ℕ) → p < 2 ^ 32 → q < 2 ^ 32 → (b ≡ true → rank p ≡ rank x) → (b ≡ false → rank q ≡ rank x)
      → word (cond b (signed p) (signed q)) ≡ x
  chosen true p q hp hq s t = word_signed p hp ∙ rank_one hp h (s refl)
  chosen false p q hp hq s t = word_signed q hq ∙ rank_one hq h (t refl)

  pub identity_left : (m : Monoid) → binary_word (monoid_op m) (identity_word m) x ≡ x
  unfolding binary_word
  identity_left Plus = rw zero_number (ap word (+ℤ_idl (signed x)) ∙ word_signed x h)
  identity_left Times = rw one_number (ap word (*ℤ_comm (pos 1) (signed x) ∙ times_one (signed x)) ∙ word_signed x h)
  identity_left Min =
      rw (rank_order 2147483647 x (omega arith) h)
      (chosen (leb (rank 2147483647) (rank x)) 2147483647 x (omega arith) h
      (λ e. omega (arith, leb-true (rank 2147483647) (rank x) e)) (λ e. refl))
  identity_left Max =
      rw (rank_order 2147483648 x (omega arith) h)
      (chosen (leb (rank 2147483648) (rank x)) x 2147483648 h (omega arith)
      (λ e. refl) (λ e. omega (arith, leb-false (rank 2147483648) (rank x) e)))

  pub identity_right : (m : Monoid) → binary_word (monoid_op m) x (identity_word m) ≡ x
  unfolding binary_word
  identity_right Plus = rw zero_number (ap word (+ℤ_idr (signed x)) ∙ word_signed x h)
  identity_right Times = rw one_number (ap word (times_one (signed x)) ∙ word_signed x h)
  identity_right Min =
      rw (rank_order x 2147483647 h (omega arith))
      (chosen (leb (rank x) (rank 2147483647)) x 2147483647 h (omega arith)
      (λ e. refl) (λ e. omega (arith, leb-false (rank x) (rank 2147483647) e)))
  identity_right Max =
      rw (rank_order x 2147483648 h (omega arith))
      (chosen (leb (rank x) (rank 2147483648)) 2147483648 x (omega arith) h
      (λ e. omega (arith, leb-true (rank x) (rank 2147483648) e)) (λ e. refl))

  -- where there are values, the identity is not seen
  pub identity_unseen : (m : Monoid) (xs : List ℕ)
      → total (monoid_op m) (identity_word m) (x ∷ xs) ≡ total (monoid_op m) x xs
  identity_unseen m xs = ap (λ (y : ℕ). total (monoid_op m) y xs) (identity_left m)
