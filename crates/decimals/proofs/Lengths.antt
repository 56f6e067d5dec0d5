-- How long decimals are. Cited where the largest text is worked out.
use Prim.Native.Nat.{ℕ, suc, ◌+◌, ◌-◌, ◌*◌, ◌/◌, ◌%◌, ◌^◌, ◌≤◌, ◌<◌}
use native.Mathlib.Omega.{arith}
use native.Mathlib.Decide.{dec_lt}
use mathlib.Core.List.{[], ◌∷◌}
use lib.ListN.{length, length-append}
use Rattle.decimals.specs.Decimal.{digit, decimal, signed_decimal}
use Rattle.decimals.proofs.Digits.{decimal_small, decimal_large, signed_small, signed_large}

-- every number below b has at most k digits
abbrev Short : ℕ → ℕ → Type 0
Short k b = (n : ℕ) → n < b → n < 2 ^ 32 → length (decimal n) ≤ k

one_digit : Short 1 10
one_digit n h w = rw (decimal_small n h) (omega arith)

-- one digit more
longer : (k b : ℕ) → Short (suc k) b → Short (suc (suc k)) (b * 10)
longer k b f n h w = go (dec_lt n 10)
  where
    go : Dec (n < 10) → length (decimal n) ≤ suc (suc k)
    go (yes l) = rw (decimal_small n l) (omega arith)
    go (no l) =
        let u = f (n / 10) (omega arith) (omega arith) in
        rw (decimal_large n (omega arith) w, length-append (decimal (n / 10)) (digit (n % 10) ∷ [])) (omega arith)

pub three_digits : Short 3 1000
three_digits = longer 1 100 (longer 0 10 one_digit)

pub four_digits : Short 4 10000
four_digits = longer 2 1000 three_digits

ten_digits : Short 10 10000000000
ten_digits =
    longer 8 1000000000 (longer 7 100000000 (longer 6 10000000 (longer 5 1000000 (longer 4 100000
    (longer 3 10000 four_digits)))))

-- a value has at most ten digits and a sign
pub signed_short : (w : ℕ) → w < 2 ^ 32 → length (signed_decimal w) ≤ 11
signed_short w h = go (dec_lt w 2147483648)
  where
    go : Dec (w < 2147483648) → length (signed_decimal w) ≤ 11
    go (yes l) = rw (signed_small w l) (omega (arith, ten_digits w (omega arith) h))
    go (no l) =
        rw (signed_large w (omega arith) h) (omega (arith, ten_digits (4294967295 - w + 1) (omega arith) (omega arith)))
