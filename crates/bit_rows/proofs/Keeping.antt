-- The columns of a map that another map lets through: the bits of one word, and the loop over the words.
use Prim.Native.Nat.{ℕ, zero, suc, ◌+◌, ◌/◌, ◌%◌, ◌^◌, ◌≤◌, ◌<◌, min}
use native.Mathlib.Omega.{arith}
use native.Mathlib.Decide.{dec_lt, ℕ_discrete}
use mathlib.Core.Path.{◌≡◌, refl, ap, ◌∙◌}
use mathlib.Core.List.{List}
use mathlib.Core.Bool.{Bool, true, false, cond}
use lib.ListN.{length, set, length-set, get_or-eq_default}
use lib.Seq.{get_or-set_same, get_or-set_other}
use lib.Bits.{bit_and, bit_xor, differ, and_zero_l, xor_zero_l, xor_shr, xor_step}
use Rattle.words.specs.Words.{at}
use Rattle.bit_rows.specs.Bits.{bit, map_words, lets, Tracked, KeptBits, Kept}
use Rattle.bit_rows.proofs.Bits.{bit_none, bit_small, bit_and_lem}

-- ---- one word

differ_small : (a b : ℕ) → a < 2 → b < 2 → differ a b < 2
differ_small zero b l m = m
differ_small (suc zero) zero l m = omega arith
differ_small (suc zero) (suc zero) l m = omega arith
differ_small (suc zero) (suc (suc b)) l m = absurd (omega arith)
differ_small (suc (suc a)) b l m = absurd (omega arith)

bit_xor_lem : (x y s : ℕ) → bit (bit_xor x y) s ≡ differ (bit x s) (bit y s)
unfolding bit
bit_xor_lem x y s =
    let a = x / 2 ^ s in
    let b = y / 2 ^ s in
    let small = differ_small (a % 2) (b % 2) (omega arith) (omega arith) in
    rw (xor_shr, xor_step) (omega arith)

-- bits that both have, and those that the second has not
both : (a b : ℕ) → a < 2 → b < 2 → min a b ≡ cond (lets false b) a 0
both a zero l m = omega arith
both a (suc zero) l m = omega arith
both a (suc (suc b)) l m = absurd (omega arith)

first_alone : (a b : ℕ) → a < 2 → b < 2 → differ a (min a b) ≡ cond (lets true b) a 0
first_alone zero zero l m = refl
first_alone zero (suc zero) l m = refl
first_alone zero (suc (suc b)) l m = absurd (omega arith)
first_alone (suc zero) zero l m = refl
first_alone (suc zero) (suc zero) l m = refl
first_alone (suc zero) (suc (suc b)) l m = absurd (omega arith)
first_alone (suc (suc a)) b l m = absurd (omega arith)

pub kept_marked : (x y : ℕ) → KeptBits false x y (bit_and x y)
kept_marked x y = record {
  bits = λ s. bit_and_lem x y s ∙ both (bit x s) (bit y s) (bit_small x s) (bit_small y s);
  none = λ e. rw e (and_zero_l y);
}

pub kept_unmarked : (x y : ℕ) → KeptBits true x y (bit_xor x (bit_and x y))
kept_unmarked x y = record {
  bits = λ s.
      bit_xor_lem x (bit_and x y) s ∙ ap (differ (bit x s)) (bit_and_lem x y s)
      ∙ first_alone (bit x s) (bit y s) (bit_small x s) (bit_small y s);
  none = λ e. rw (e, xor_zero_l) (and_zero_l y);
}

pub kept_none : (complement : Bool) (y : ℕ) → KeptBits complement 0 y 0
kept_none complement y = record { bits = λ s. go (lets complement (bit y s)) (bit 0 s) (bit_none s); none = λ e. refl }
  where
    go : (b : Bool) (x : ℕ) → x ≡ 0 → x ≡ cond b x 0
    go true x e = refl
    go false x e = e

-- ---- the words before w

pub record Keeping (complement : Bool) (marks map₀ map : List ℕ) (w : ℕ) : Type 0 where
  pub within : w ≤ map_words
  pub long : length map ≡ length map₀
  pub done : (k : ℕ) → k < w → KeptBits complement (at map₀ k) (at marks k) (at map k)
  pub rest : (k : ℕ) → w ≤ k → at map k ≡ at map₀ k

pub keeping_start : {complement : Bool} {marks map : List ℕ} → Keeping complement marks map map 0
keeping_start = record { within = omega arith; long = refl; done = λ k l. absurd (omega arith); rest = λ k l. refl }

module _ {complement : Bool} {marks map₀ map : List ℕ} {w : ℕ} (h : Keeping complement marks map₀ map w)
    (n : length map₀ ≡ map_words) where
  pub keeping_step : {x : ℕ} → w < map_words → KeptBits complement (at map w) (at marks w) x
      → Keeping complement marks map₀ (set map w x) (w + 1)
  keeping_step {x} l k = record {
    within = omega arith;
    long = length-set map w x ∙ h.long;
    done = λ i m. go i m (ℕ_discrete i w);
    rest = λ i m. get_or-set_other map w i x 0 (λ e. omega arith) ∙ h.rest i (omega arith);
  }
    where
      go : (i : ℕ) → i < w + 1 → Dec (i ≡ w) → KeptBits complement (at map₀ i) (at marks i) (at (set map w x) i)
      go i m (yes e) =
          rw (e, get_or-set_same map w x 0 (omega (arith, h.long, n)), ← (h.rest w (omega arith))) k
      go i m (no e) = rw (get_or-set_other map w i x 0 e) (h.done i (omega arith))

  pub keeping_done : map_words ≤ w → Kept complement marks map₀ map
  keeping_done l = record { size = h.long; word = λ k. go k (dec_lt k map_words) }
    where
      go : (k : ℕ) → Dec (k < map_words) → KeptBits complement (at map₀ k) (at marks k) (at map k)
      go k (yes d) = h.done k (omega arith)
      go k (no d) =
          let z : at map₀ k ≡ 0 = get_or-eq_default map₀ 0 {n = k} (omega (arith, n)) in
          rw (h.rest k (omega (arith, h.within)), z) (kept_none complement (at marks k))

-- ---- a map whose words in use are known

pub kept_tracked : {complement : Bool} {marks map map' : List ℕ} {top : ℕ} → Kept complement marks map map'
    → Tracked top map → Tracked top map'
kept_tracked k t = record {
  size = k.size ∙ t.size;
  within = t.within;
  unused = λ w e. (k.word w).none (t.unused w e);
}
