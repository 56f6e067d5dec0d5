-- The conditions by ranks: what the arms of `is_selected` work out on words is what the conditions mean on numbers.
use Rattle.std.proofs.Common.{
  ◌≡◌,
  ℕ,
  suc,
  ◌+◌,
  ◌-◌,
  ◌^◌,
  ◌<◌,
  ◌≤◌,
  ltb,
  leb,
  pos,
  negsuc,
  ◌+ℤ◌,
  sym,
  ◌∙◌,
  arith,
  le-ltb,
  lt-ltb,
  le-leb,
}
use native.Mathlib.Decide.{dec_lt}
use lib.Signed.{le_z, lt_z}
use borrow.Author.Tests.{lt-leb}
use Rattle.twos_complement.specs.TwosComplement.{signed}
use Rattle.twos_complement.proofs.Words.{signed_cases}
use Rattle.twos_complement.proofs.Values.{less_not, less_not_ℤ}
use Rattle.operators.proofs.Larger.{rank, leb_same, rank_order}

-- the order of two values
module _ (x y : ℕ) (hx : x < 2 ^ 32) (hy : y < 2 ^ 32) where
  pub at_most : leb (rank x) (rank y) ≡ le_z (signed x) (signed y)
  at_most = sym (rank_order x y hx hy)

  pub less : ltb (rank x) (rank y) ≡ lt_z (signed x) (signed y)
  less = less_not (rank x) (rank y) ∙ sym (less_not_ℤ (signed x) (signed y) ∙ rw (rank_order y x hy hx))

-- the two triangles, by the column and the sum raised alike
module _ (i j s : ℕ) (hs : s < 2 ^ 32) where
  pub lower : leb (j + 2 ^ 31) (i + rank s) ≡ le_z (pos j) (pos i +ℤ signed s)
  lower =
      signed_cases (λ z. leb (j + 2 ^ 31) (i + rank s) ≡ le_z (pos j) (pos i +ℤ z)) s hs
      (λ l. leb_same (j + 2 ^ 31) (i + rank s) j (i + s) (λ h. omega arith) (λ h. omega arith))
      (λ g. go g (dec_lt i (suc (2 ^ 32 - suc s))))
    where
      go : 2 ^ 31 ≤ s → Dec (i < suc (2 ^ 32 - suc s))
          → leb (j + 2 ^ 31) (i + rank s) ≡ le_z (pos j) (pos i +ℤ negsuc (2 ^ 32 - suc s))
      go g (yes l) = rw (lt-ltb i (suc (2 ^ 32 - suc s)) l) (lt-leb (j + 2 ^ 31) (i + rank s) (omega arith))
      go g (no n) =
          rw (le-ltb i (suc (2 ^ 32 - suc s)) (omega arith))
          (leb_same (j + 2 ^ 31) (i + rank s) j (i - suc (2 ^ 32 - suc s)) (λ h. omega arith) (λ h. omega arith))

  pub upper : leb (i + rank s) (j + 2 ^ 31) ≡ le_z (pos i +ℤ signed s) (pos j)
  upper =
      signed_cases (λ z. leb (i + rank s) (j + 2 ^ 31) ≡ le_z (pos i +ℤ z) (pos j)) s hs
      (λ l. leb_same (i + rank s) (j + 2 ^ 31) (i + s) j (λ h. omega arith) (λ h. omega arith))
      (λ g. go g (dec_lt i (suc (2 ^ 32 - suc s))))
    where
      go : 2 ^ 31 ≤ s → Dec (i < suc (2 ^ 32 - suc s))
          → leb (i + rank s) (j + 2 ^ 31) ≡ le_z (pos i +ℤ negsuc (2 ^ 32 - suc s)) (pos j)
      go g (yes l) = rw (lt-ltb i (suc (2 ^ 32 - suc s)) l) (le-leb (i + rank s) (j + 2 ^ 31) (omega arith))
      go g (no n) =
          rw (le-ltb i (suc (2 ^ 32 - suc s)) (omega arith))
          (leb_same (i + rank s) (j + 2 ^ 31) (i - suc (2 ^ 32 - suc s)) j (λ h. omega arith) (λ h. omega arith))
