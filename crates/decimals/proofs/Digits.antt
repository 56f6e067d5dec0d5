-- Laws of `decimal` and `signed_decimal`, as the code reaches them.
use Prim.Native.Nat.{ℕ, suc, ◌+◌, ◌-◌, ◌*◌, ◌/◌, ◌%◌, ◌^◌, ◌≤◌, ◌<◌}
use native.Mathlib.Omega.{arith}
use native.Mathlib.Decide.{dec_lt}
use mathlib.Core.Path.{◌≡◌, ap, ◌∙◌}
use mathlib.Core.List.{List, [], ◌∷◌, ◌++◌}
use borrow.Author.Tests.{lt-ltb, le-ltb}
use Rattle.twos_complement.specs.TwosComplement.{signed}
use Rattle.decimals.specs.Decimal.{digit, minus, digits, decimal, signed_decimal}

-- for numbers below b a turn more than `suc t` changes nothing
abbrev Enough : ℕ → ℕ → Type 0
Enough t b = (n : ℕ) → n < b → digits (suc t) n ≡ digits (suc (suc t)) n

enough_one : Enough 0 10
unfolding digits
enough_one n h = rw (lt-ltb n 10 h)

enough_more : (t b : ℕ) → Enough t b → Enough (suc t) (b * 10)
unfolding digits
enough_more t b f n h = go (dec_lt n 10)
  where
    go : Dec (n < 10) → digits (suc (suc t)) n ≡ digits (suc (suc (suc t))) n
    go (yes l) = rw (lt-ltb n 10 l)
    go (no l) =
        let m : 10 ≤ n = omega arith in
        let e = f (n / 10) (omega arith) in
        rw (le-ltb n 10 m) (ap (λ (x : List ℕ). x ++ (digit (n % 10) ∷ [])) e)

enough_nine : Enough 8 1000000000
enough_nine =
    enough_more 7 100000000 (enough_more 6 10000000 (enough_more 5 1000000 (enough_more 4 100000
    (enough_more 3 10000 (enough_more 2 1000 (enough_more 1 100 (enough_more 0 10 enough_one)))))))

-- one digit
pub decimal_small : (n : ℕ) → n < 10 → decimal n ≡ digit n ∷ []
unfolding digits
decimal_small n h = rw (lt-ltb n 10 h)

-- several, with a turn less for those before the last
several : (n t : ℕ) → 10 ≤ n → digits (suc t) n ≡ digits t (n / 10) ++ (digit (n % 10) ∷ [])
unfolding digits
several n t h = rw (le-ltb n 10 h)

pub decimal_large : (n : ℕ) → 10 ≤ n → n < 2 ^ 32 → decimal n ≡ decimal (n / 10) ++ (digit (n % 10) ∷ [])
decimal_large n h l =
    several n 9 h ∙ ap (λ (x : List ℕ). x ++ (digit (n % 10) ∷ [])) (enough_nine (n / 10) (omega arith))

-- what a word holds below 2 ^ 31, and from there on
pub signed_small : (w : ℕ) → w < 2147483648 → signed_decimal w ≡ decimal w
unfolding signed
signed_small w h = rw (lt-ltb w (2 ^ 31) h)

pub signed_large : (w : ℕ) → 2147483648 ≤ w → w < 2 ^ 32 → signed_decimal w ≡ minus ∷ decimal (4294967295 - w + 1)
unfolding signed
signed_large w h l =
    let e : suc (4294967296 - suc w) ≡ 4294967295 - w + 1 = omega arith in
    rw (le-ltb w (2 ^ 31) h, lt-ltb w (2 ^ 32) l) (ap (λ (n : ℕ). minus ∷ decimal n) e)
