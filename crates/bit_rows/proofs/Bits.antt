-- Bits of words: shifts, `or`, the lowest set bit, and a word without its lowest set bit.
use Prim.Native.Nat.{ℕ, zero, suc, ◌+◌, ◌-◌, ◌*◌, ◌/◌, ◌%◌, ◌^◌, ◌≤◌, ◌<◌, min, max}
use native.Mathlib.Omega.{arith}
use native.Mathlib.Nat.{pow-suc, div-one}
use native.Mathlib.Decide.{dec_lt}
use mathlib.Core.Path.{◌≡◌, refl, sym, ap, ◌∙◌}
use lib.Bits.{bit_and, bit_or, and_shr, and_step, and_le_r, or_shr, or_step}
use lib.Pow.{shr-shr, shl-shr, shr_lt, pow_mono}
use lib.Count.{count_trailing_zeros, under}
use Rattle.bit_rows.specs.Bits.{bit, SetBit}

-- ---- single bits

bit_low : (x : ℕ) → bit x 0 ≡ x % 2
unfolding bit
bit_low x = ap (λ (y : ℕ). y % 2) (div-one x)

bit_half : (x s : ℕ) → bit x (suc s) ≡ bit (x / 2) s
unfolding bit
bit_half x s = let e : suc s ≡ 1 + s = omega arith in rw (e, shr-shr x 1 s)

pub bit_none : (s : ℕ) → bit 0 s ≡ 0
bit_none zero = bit_low 0
bit_none (suc s) = bit_half 0 s ∙ bit_none s

pub bit_small : (x s : ℕ) → bit x s < 2
unfolding bit
bit_small x s = omega arith

pub bit_high : (x s : ℕ) → x < 2 ^ 64 → 64 ≤ s → bit x s ≡ 0
unfolding bit
bit_high x s h l =
    let m : 2 ^ 64 ≤ 2 ^ (0 + s) = pow_mono {i = 64} {j = 0 + s} (omega arith) in
    let z : x / 2 ^ s < 2 ^ 0 = shr_lt 0 s (omega arith) in
    omega arith

-- ---- a bit more

bit_or_lem : (x y s : ℕ) → bit (bit_or x y) s ≡ max (bit x s) (bit y s)
unfolding bit
bit_or_lem x y s = let a = x / 2 ^ s in let b = y / 2 ^ s in rw (or_shr, or_step) (omega arith)

bit_pow_same : (s : ℕ) → bit (1 * 2 ^ s) s ≡ 1
unfolding bit
bit_pow_same s = rw (shl-shr 1 s)

bit_pow_other : (s t : ℕ) → (t ≡ s → ⊥) → bit (1 * 2 ^ s) t ≡ 0
bit_pow_other zero zero h = absurd (h refl)
bit_pow_other zero (suc t) h = bit_half 1 t ∙ bit_none t
bit_pow_other (suc s) zero h = bit_low (1 * 2 ^ suc s) ∙ rw (pow-suc 2 s) (omega arith)
bit_pow_other (suc s) (suc t) h =
    bit_half (1 * 2 ^ suc s) t
    ∙ (let e : 1 * 2 ^ suc s / 2 ≡ 1 * 2 ^ s = rw (pow-suc 2 s) (omega arith) in
    rw e (bit_pow_other s t (λ z. h (ap suc z))))

pub set_bit : (x s : ℕ) → SetBit x s (bit_or x (1 * 2 ^ s))
set_bit x s = record {
  here = bit_or_lem x (1 * 2 ^ s) s ∙ rw (bit_pow_same s) (omega (arith, bit_small x s));
  other = λ t h. bit_or_lem x (1 * 2 ^ s) t ∙ rw (bit_pow_other s t h) (omega arith);
}

-- ---- the lowest set bit, and the word without it

pub bit_and_lem : (x y s : ℕ) → bit (bit_and x y) s ≡ min (bit x s) (bit y s)
unfolding bit
bit_and_lem x y s = let a = x / 2 ^ s in let b = y / 2 ^ s in rw (and_shr, and_step) (omega arith)

-- t is the lowest set bit of x, and x - 1 has the bits above it
record Lowest (x t : ℕ) : Type 0 where
  pub here : bit x t ≡ 1
  pub below : (s : ℕ) → s < t → bit x s ≡ 0
  pub gone : bit (x - 1) t ≡ 0
  pub above : (s : ℕ) → t < s → bit (x - 1) s ≡ bit x s

lowest_odd : (x : ℕ) → x % 2 ≡ 1 → Lowest x 0
lowest_odd x e =
    let h : (x - 1) / 2 ≡ x / 2 = omega arith in
    record {
      here = bit_low x ∙ e;
      below = λ s l. absurd (omega arith);
      gone = bit_low (x - 1) ∙ omega arith;
      above = λ s l. go s l h;
    }
  where
    go : (s : ℕ) → 0 < s → (x - 1) / 2 ≡ x / 2 → bit (x - 1) s ≡ bit x s
    go zero l h = absurd (omega arith)
    go (suc s) l h = bit_half (x - 1) s ∙ rw h (sym (bit_half x s))

lowest_even : (x t : ℕ) → 0 < x → x % 2 ≡ 0 → Lowest (x / 2) t → Lowest x (suc t)
lowest_even x t l e h =
    let q : (x - 1) / 2 ≡ x / 2 - 1 = omega arith in
    record {
      here = bit_half x t ∙ h.here;
      below = λ s m. down s m;
      gone = bit_half (x - 1) t ∙ rw q h.gone;
      above = λ s m. up s m q;
    }
  where
    down : (s : ℕ) → s < suc t → bit x s ≡ 0
    down zero m = bit_low x ∙ e
    down (suc s) m = bit_half x s ∙ h.below s (omega arith)

    up : (s : ℕ) → suc t < s → (x - 1) / 2 ≡ x / 2 - 1 → bit (x - 1) s ≡ bit x s
    up zero m q = absurd (omega arith)
    up (suc s) m q = bit_half (x - 1) s ∙ rw q (h.above s (omega arith)) ∙ sym (bit_half x s)

lowest : (d x : ℕ) → 0 < x → x < 2 ^ d → Lowest x (count_trailing_zeros d x)
unfolding count_trailing_zeros
lowest zero x l m = absurd (omega arith)
lowest (suc d) x l m = go (x % 2) refl (λ k. lowest d (x / 2) k (omega (arith, pow-suc 2 d)))
  where
    go : (r : ℕ) → x % 2 ≡ r → (0 < x / 2 → Lowest (x / 2) (count_trailing_zeros d (x / 2)))
        → Lowest x (under r (count_trailing_zeros d (x / 2)))
    go zero e half = lowest_even x (count_trailing_zeros d (x / 2)) l e (half (omega arith))
    go (suc r) e half = lowest_odd x (omega arith)

-- ---- a walk over the set bits of x: `rest` has those from p on

pub record Left (x rest p : ℕ) : Type 0 where
  pub word : x < 2 ^ 64
  pub fits : rest < 2 ^ 64
  pub before : (s : ℕ) → s < p → bit rest s ≡ 0
  pub onward : (s : ℕ) → p ≤ s → bit rest s ≡ bit x s

pub left_start : (x : ℕ) → x < 2 ^ 64 → Left x x 0
left_start x l = record { word = l; fits = l; before = λ s m. absurd (omega arith); onward = λ s m. refl }

-- the next set bit
abbrev pub next : ℕ → ℕ
next rest = count_trailing_zeros 64 rest

module _ {x rest p : ℕ} (h : Left x rest p) where
  -- behind the last bit there is none
  pub left_none : rest ≡ 0 → (s : ℕ) → p ≤ s → bit x s ≡ 0
  left_none e s l = sym (h.onward s l) ∙ rw e (bit_none s)

  module _ (n : rest ≡ 0 → ⊥) where
    low : Lowest rest (next rest)
    low = lowest 64 rest (omega arith) h.fits

    pub left_from : p ≤ next rest
    left_from = go (dec_lt (next rest) p)
      where
        go : Dec (next rest < p) → p ≤ next rest
        go (yes d) = absurd (omega (arith, low.here, h.before (next rest) d))
        go (no d) = omega arith

    pub left_here : bit x (next rest) ≡ 1
    left_here = sym (h.onward (next rest) left_from) ∙ low.here

    pub left_within : next rest < 64
    left_within = go (dec_lt (next rest) 64)
      where
        go : Dec (next rest < 64) → next rest < 64
        go (yes d) = d
        go (no d) = absurd (omega (arith, left_here, bit_high x (next rest) h.word (omega arith)))

    -- there is none before it
    pub left_gap : (s : ℕ) → p ≤ s → s < next rest → bit x s ≡ 0
    left_gap s l m = sym (h.onward s l) ∙ low.below s m

    pub left_fewer : bit_and rest (rest - 1) < rest
    left_fewer = omega (arith, and_le_r rest (rest - 1))

    pub left_step : Left x (bit_and rest (rest - 1)) (next rest + 1)
    left_step = record {
      word = h.word;
      fits = omega (arith, left_fewer, h.fits);
      before = λ s l. bit_and_lem rest (rest - 1) s ∙ gone s (dec_lt s (next rest)) l;
      onward = λ s l.
          bit_and_lem rest (rest - 1) s ∙ rw (low.above s (omega arith)) (omega arith)
          ∙ h.onward s (omega (arith, left_from));
    }
      where
        gone : (s : ℕ) → Dec (s < next rest) → s < next rest + 1 → min (bit rest s) (bit (rest - 1) s) ≡ 0
        gone s (yes d) l = rw (low.below s d) (omega arith)
        gone s (no d) l = let e : s ≡ next rest = omega arith in rw (e, low.gone) (omega arith)
