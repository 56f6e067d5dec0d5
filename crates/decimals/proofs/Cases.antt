-- The ways through `put_decimal` and `put_signed`: the room that each call finds, and what is appended in the end.
use Prim.Native.Nat.{ℕ, ◌+◌, ◌-◌, ◌/◌, ◌%◌, ◌^◌, ◌≤◌, ◌<◌}
use native.Mathlib.Omega.{arith}
use mathlib.Core.Path.{◌≡◌, ap, ◌∙◌}
use mathlib.Core.List.{List, [], ◌∷◌}
use lib.ListN.{length, length-append}
use Rattle.append.specs.Appended.{Appended}
use Rattle.append.proofs.Appending.{appended_then}
use Rattle.decimals.specs.Decimal.{digit, minus, decimal, signed_decimal}
use Rattle.decimals.proofs.Digits.{decimal_small, decimal_large, signed_small, signed_large}

-- the bytes x have room in s from `at` on
abbrev pub Room : ℕ → List ℕ → List ℕ → Type 0
Room at x s = at + length x ≤ length s

module _ (at n : ℕ) (s : List ℕ) (h : n < 10) where
  pub small_room : Room at (decimal n) s → at < length s
  small_room p = let e = ap length (decimal_small n h) in omega arith

  pub small_appended : {t : List ℕ} {r : ℕ} → Appended (digit n ∷ []) s t at r → Appended (decimal n) s t at r
  small_appended p = rw (decimal_small n h) p

module _ (at n : ℕ) (s : List ℕ) (h : 10 ≤ n) (l : n < 2 ^ 32) where
  lengths : length (decimal n) ≡ length (decimal (n / 10)) + 1
  lengths = rw (decimal_large n h l) (length-append (decimal (n / 10)) (digit (n % 10) ∷ []))

  pub front_room : Room at (decimal n) s → Room at (decimal (n / 10)) s
  front_room p = let e = lengths in omega arith

  pub last_room : {t : List ℕ} {b : ℕ} → Room at (decimal n) s → Appended (decimal (n / 10)) s t at b → b < length t
  last_room p q = let e = lengths in omega (arith, q.next, q.kept)

  pub large_appended : {t u : List ℕ} {b r : ℕ} → Appended (decimal (n / 10)) s t at b
      → Appended (digit (n % 10) ∷ []) t u b r → Appended (decimal n) s u at r
  large_appended p q = rw (decimal_large n h l) (appended_then p q)

module _ (at w : ℕ) (s : List ℕ) (h : w < 2147483648) where
  pub positive_room : Room at (signed_decimal w) s → Room at (decimal w) s
  positive_room p = let e = ap length (signed_small w h) in omega arith

  pub positive_appended : {t : List ℕ} {r : ℕ} → Appended (decimal w) s t at r → Appended (signed_decimal w) s t at r
  positive_appended p = rw (signed_small w h) p

module _ (at w : ℕ) (s : List ℕ) (h : 2147483648 ≤ w) (l : w < 2 ^ 32) where
  pub minus_room : Room at (signed_decimal w) s → at < length s
  minus_room p = let e = ap length (signed_large w h l) in omega arith

  -- n is what is left without the sign
  module _ (n : ℕ) (q : (n + w) % 2 ^ 32 ≡ 0) (k : n < 2 ^ 32) where
    negative : signed_decimal w ≡ minus ∷ decimal n
    negative = signed_large w h l ∙ ap (λ (x : ℕ). minus ∷ decimal x) (left w n h l q k)
      where
        left : (w n : ℕ) → 2147483648 ≤ w → w < 2 ^ 32 → (n + w) % 2 ^ 32 ≡ 0 → n < 2 ^ 32 → 4294967295 - w + 1 ≡ n
        left w n h l q k = omega arith

    pub negative_room : {t : List ℕ} {b : ℕ} → Room at (signed_decimal w) s → Appended (minus ∷ []) s t at b
        → Room b (decimal n) t
    negative_room p q = let e = ap length negative in omega (arith, q.next, q.kept)

    pub negative_appended : {t u : List ℕ} {b r : ℕ} → Appended (minus ∷ []) s t at b
        → Appended (decimal n) t u b r → Appended (signed_decimal w) s u at r
    negative_appended p q = rw negative (appended_then p q)
