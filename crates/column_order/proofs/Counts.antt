-- Laws of `count`: a turn of a loop that counts, counts of two ranges, and counts that are 0.
use Prim.Native.Nat.{ℕ, zero, suc, ◌+◌, ◌≤◌, ◌<◌}
use native.Mathlib.Omega.{arith}
use native.Mathlib.Numerals.{add-one}
use native.Mathlib.Decide.{dec_lt}
use mathlib.Core.Path.{◌≡◌, refl}
use mathlib.Core.Bool.{Bool, true, false}
use mir.Val.{bool_byte}
use Rattle.column_order.specs.Falls.{one, count}

-- where a loop starts
pub count_none : (p : ℕ → Bool) → count 0 p ≡ 0
unfolding count
count_none p = refl

-- a turn of it
pub count_next : (n : ℕ) (p : ℕ → Bool) → count (n + 1) p ≡ count n p + one (p n)
unfolding count
count_next n p = rw (add-one n)

-- a turn of a loop: what the test says there is added, as a number, to what was counted so far
pub count_turn : {n c r : ℕ} (p : ℕ → Bool) (b : Bool) → c ≡ count n p → r ≡ bool_byte b → b ≡ p n
    → c + r ≡ count (n + 1) p
count_turn {n} p b e g h = rw (count_next n p, ← h, e, g, number b)
  where
    number : (b : Bool) → bool_byte b ≡ one b
    number true = refl
    number false = refl

-- no more than were tested
pub count_most : (n : ℕ) (p : ℕ → Bool) → count n p ≤ n
unfolding count
count_most zero p = omega arith
count_most (suc n) p = omega (arith, count_most n p, most (p n))
  where
    most : (b : Bool) → one b ≤ 1
    most true = omega arith
    most false = omega arith

-- the same tests have the same count
pub count_same : (n : ℕ) (p q : ℕ → Bool) → ((k : ℕ) → k < n → p k ≡ q k) → count n p ≡ count n q
unfolding count
count_same zero p q h = refl
count_same (suc n) p q h = rw (count_same n p q (λ k l. h k (omega arith)), h n (omega arith))

-- the first a numbers, and those behind them
pub count_add : (a n : ℕ) (p : ℕ → Bool) → count (a + n) p ≡ count a p + count n (λ k. p (a + k))
unfolding count
count_add a zero p = let e : a + zero ≡ a = omega arith in rw e (omega arith)
count_add a (suc n) p =
    let e : a + suc n ≡ (a + n) + 1 = omega arith in
    rw e (omega (arith, count_next (a + n) p, count_add a n p))

-- the first number, and those behind it
pub count_first : (n : ℕ) (p : ℕ → Bool) → count (1 + n) p ≡ one (p 0) + count n (λ k. p (1 + k))
count_first n p = omega (arith, count_add 1 n p, count_next 0 p, count_none p)

-- a count of 0: the test holds nowhere
pub count_zero : (n : ℕ) (p : ℕ → Bool) → ((k : ℕ) → k < n → p k ≡ false) → count n p ≡ 0
unfolding count
count_zero zero p h = refl
count_zero (suc n) p h = rw (count_zero n p (λ k l. h k (omega arith)), h n (omega arith))

pub zero_count : (n : ℕ) (p : ℕ → Bool) → count n p ≡ 0 → (k : ℕ) → k < n → p k ≡ false
unfolding count
zero_count zero p e k l = absurd (omega arith)
zero_count (suc n) p e k l = go (dec_lt k n) (λ h. zero_count n p (omega arith) k h)
  where
    here : (b : Bool) → one b ≡ 0 → b ≡ false
    here true z = let y : ⊥ = omega arith in absurd y
    here false z = refl

    go : Dec (k < n) → (k < n → p k ≡ false) → p k ≡ false
    go (yes h) r = r h
    go (no h) r = let q : k ≡ n = omega arith in rw q (here (p n) (omega arith))
