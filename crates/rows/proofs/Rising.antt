-- Laws of `rising`: what a row that rises says of its columns.
use Prim.Native.Nat.{ℕ, zero, suc, ◌+◌, ◌≤◌, ◌<◌}
use native.Mathlib.Omega.{arith}
use mathlib.Core.Path.{◌≡◌, refl}
use mathlib.Core.List.{List, [], ◌∷◌}
use mathlib.Core.Bool.{true}
use lib.ListN.{length}
use borrow.Author.Tests.{le-leb, lt-ltb, leb-true, ltb-true}
use Rattle.words.specs.Words.{at}
use Rattle.conditions.proofs.Tests.{and_left, and_right, and_both}
use Rattle.rows.specs.Row.{rising, Rises}

-- the facts of a row that rises, at its first column
record Step (bound low c : ℕ) (l : List ℕ) : Type 0 where
  above : low ≤ c
  below : c < bound
  rest : rising bound (c + 1) l ≡ true

step : (bound low c : ℕ) (l : List ℕ) → rising bound low (c ∷ l) ≡ true → Step bound low c l
step bound low c l h =
    let k = and_right _ _ h in
    record {
      above = leb-true _ _ (and_left _ _ h);
      below = ltb-true _ _ (and_left _ _ k);
      rest = and_right _ _ k;
    }

-- each column is at least the lowest allowed, and below the bound
above_low : (bound low : ℕ) (l : List ℕ) (m : ℕ) → rising bound low l ≡ true → m < length l → low ≤ at l m
above_low bound low [] m h l = absurd (omega arith)
above_low bound low (c ∷ cs) zero h l = (step bound low c cs h).above
above_low bound low (c ∷ cs) (suc m) h l =
    let s = step bound low c cs h in
    let u = above_low bound (c + 1) cs m s.rest (omega arith) in
    omega arith

pub rising_below : (bound low : ℕ) (l : List ℕ) → rising bound low l ≡ true
    → (m : ℕ) → m < length l → at l m < bound
rising_below bound low [] h m l = absurd (omega arith)
rising_below bound low (c ∷ cs) h zero l = (step bound low c cs h).below
rising_below bound low (c ∷ cs) h (suc m) l =
    rising_below bound (c + 1) cs (step bound low c cs h).rest m (omega arith)

ascends : (bound low : ℕ) (l : List ℕ) → rising bound low l ≡ true
    → (k m : ℕ) → k < m → m < length l → at l k < at l m
ascends bound low [] h k m n b = absurd (omega arith)
ascends bound low (c ∷ cs) h k zero n b = absurd (omega arith)
ascends bound low (c ∷ cs) h zero (suc m) n b =
    let u = above_low bound (c + 1) cs m (step bound low c cs h).rest (omega arith) in omega arith
ascends bound low (c ∷ cs) h (suc k) (suc m) n b =
    ascends bound (c + 1) cs (step bound low c cs h).rest k m (omega arith) (omega arith)

-- the test of a row gives the facts that a search needs
pub rising_rises : (bound low : ℕ) (l : List ℕ) → rising bound low l ≡ true → Rises l
rising_rises bound low l h = record { up = ascends bound low l h }

-- and the facts give the test
pub rises_rising : (bound low : ℕ) (l : List ℕ) → Rises l → ((m : ℕ) → m < length l → low ≤ at l m)
    → ((m : ℕ) → m < length l → at l m < bound) → rising bound low l ≡ true
rises_rising bound low [] r a b = refl
rises_rising bound low (c ∷ cs) r a b =
    and_both (le-leb _ _ (a 0 (omega arith))) (and_both (lt-ltb _ _ (b 0 (omega arith))) (rises_rising bound (c + 1) cs
    (record { up = λ k m l h. r.up (suc k) (suc m) (omega arith) (omega arith) })
    (λ m h. let u : c < at cs m = r.up 0 (suc m) (omega arith) (omega arith) in omega arith)
    (λ m h. b (suc m) (omega arith))))

-- columns that rise strictly below a bound are no more than the bound
pub rising_few : (bound low : ℕ) (l : List ℕ) → rising bound low l ≡ true → low ≤ bound → low + length l ≤ bound
rising_few bound low [] h b = omega arith
rising_few bound low (c ∷ l) h b =
    let s = step bound low c l h in
    let u = rising_few bound (c + 1) l s.rest (omega arith) in
    omega arith
