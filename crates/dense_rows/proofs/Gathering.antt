-- The loops that write the present ones of the cells f 0, f 1, .. to the front of two buffers.
use Rattle.std.proofs.Common.{None, Some}
use Prim.Native.Nat.{ℕ, ◌+◌, ◌≤◌, ◌<◌}
use native.Mathlib.Omega.{arith}
use mathlib.Core.Path.{◌≡◌, refl, ◌∙◌}
use mathlib.Core.List.{List}
use lib.ListN.{length, set, length-set}
use Rattle.grid.specs.Cell.{Cell}
use Rattle.rows.specs.Row.{Holds}
use Rattle.rows.proofs.Holds.{holds_none, holds_put, holds_skip}

-- the cells before j of n are written, and the buffers are as long as they were
pub record Gathering (n : ℕ) (f : ℕ → Cell) (oc₀ ov₀ oc ov : List ℕ) (e j : ℕ) : Type 0 where
  pub within : j ≤ n
  pub most : e ≤ j
  pub out : Holds j f e oc ov
  pub long_cols : length oc ≡ length oc₀
  pub long_vals : length ov ≡ length ov₀

pub gathering_start : (n : ℕ) (f : ℕ → Cell) (oc ov : List ℕ) → Gathering n f oc ov oc ov 0 0
gathering_start n f oc ov = record {
  within = omega arith;
  most = omega arith;
  out = holds_none f oc ov;
  long_cols = refl;
  long_vals = refl;
}

module _ {n : ℕ} {f : ℕ → Cell} {oc₀ ov₀ oc ov : List ℕ} {e j : ℕ} (h : Gathering n f oc₀ ov₀ oc ov e j)
    (l : j < n) where
  -- the cell at j is present
  pub gathering_put : {v : ℕ} → n ≤ length oc₀ → n ≤ length ov₀ → f j ≡ Some v
      → Gathering n f oc₀ ov₀ (set oc e j) (set ov e v) (e + 1) (j + 1)
  gathering_put {v} a b p = record {
    within = omega arith;
    most = omega arith;
    out = holds_put h.out (omega arith) (omega arith) p;
    long_cols = length-set oc e j ∙ h.long_cols;
    long_vals = length-set ov e v ∙ h.long_vals;
  }

  -- it is absent
  pub gathering_skip : f j ≡ None → Gathering n f oc₀ ov₀ oc ov e (j + 1)
  gathering_skip p = record {
    within = omega arith;
    most = omega arith;
    out = holds_skip h.out (j + 1) (omega arith) (λ k a b. let q : k ≡ j = omega arith in rw q p);
    long_cols = h.long_cols;
    long_vals = h.long_vals;
  }

-- all of them are written
pub gathering_done : {n : ℕ} {f : ℕ → Cell} {oc₀ ov₀ oc ov : List ℕ} {e j : ℕ} → Gathering n f oc₀ ov₀ oc ov e j
    → n ≤ j → Holds n f e oc ov
gathering_done {n} {f} {oc₀} {ov₀} {oc} {ov} {e} {j} h l = let q : j ≡ n = omega arith in rw q at h.out
