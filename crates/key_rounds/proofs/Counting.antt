-- Counting: a test that holds wherever another does holds no less often, and where it holds no more often, they agree.
use Prim.Native.Nat.{ℕ, zero, suc, ◌+◌, ◌≤◌, ◌<◌}
use native.Mathlib.Omega.{arith}
use native.Mathlib.Numerals.{add-one}
use native.Mathlib.Decide.{dec_lt}
use mathlib.Core.Path.{◌≡◌, refl, sym}
use mathlib.Core.Bool.{Bool, true, false, cond, false≢true}
use Rattle.key_rounds.specs.Rounds.{count}

-- what one number counts
mark_most : (b : Bool) → cond b 1 0 ≤ 1
mark_most true = omega arith
mark_most false = omega arith

mark_grows : (b c : Bool) → (b ≡ true → c ≡ true) → cond b 1 0 ≤ cond c 1 0
mark_grows false c h = omega arith
mark_grows true true h = omega arith
mark_grows true false h = absurd (false≢true (h refl))

mark_same : (b c : Bool) → (b ≡ true → c ≡ true) → cond c 1 0 ≤ cond b 1 0 → b ≡ c
mark_same true c h l = sym (h refl)
mark_same false false h l = refl
mark_same false true h l = absurd (omega arith)

pub count_none : (p : ℕ → Bool) → 0 ≡ count 0 p
unfolding count
count_none p = refl

-- one number more
pub count_next : (n : ℕ) (p : ℕ → Bool) → count (n + 1) p ≡ count n p + cond (p n) 1 0
unfolding count
count_next n p = rw (add-one n)

pub count_most : (n : ℕ) (p : ℕ → Bool) → count n p ≤ n
unfolding count
count_most zero p = omega arith
count_most (suc n) p = omega (arith, count_most n p, mark_most (p n))

pub count_same : (n : ℕ) (p q : ℕ → Bool) → ((k : ℕ) → k < n → p k ≡ q k) → count n p ≡ count n q
unfolding count
count_same zero p q h = refl
count_same (suc n) p q h = rw (count_same n p q (λ k l. h k (omega arith)), h n (omega arith))

pub count_grows : (n : ℕ) (p q : ℕ → Bool) → ((k : ℕ) → k < n → p k ≡ true → q k ≡ true) → count n p ≤ count n q
unfolding count
count_grows zero p q h = omega arith
count_grows (suc n) p q h =
    omega (arith, count_grows n p q (λ k l. h k (omega arith)), mark_grows (p n) (q n) (h n (omega arith)))

-- as many of the one as of the other: they are the same
pub count_full : (n : ℕ) (p q : ℕ → Bool) → ((k : ℕ) → k < n → p k ≡ true → q k ≡ true) → count n q ≤ count n p
    → (k : ℕ) → k < n → p k ≡ q k
unfolding count
count_full zero p q h c k l = absurd (omega arith)
count_full (suc n) p q h c k l =
    go (dec_lt k n) (λ d. count_full n p q (λ i m. h i (omega arith)) (omega (arith, here)) k d)
  where
    below : count n p ≤ count n q
    below = count_grows n p q (λ i m. h i (omega arith))

    here : cond (p n) 1 0 ≤ cond (q n) 1 0
    here = mark_grows (p n) (q n) (h n (omega arith))

    go : Dec (k < n) → (k < n → p k ≡ q k) → p k ≡ q k
    go (yes d) r = r d
    go (no d) r =
        let e : k ≡ n = omega arith in
        rw e (mark_same (p n) (q n) (h n (omega arith)) (omega (arith, below)))
