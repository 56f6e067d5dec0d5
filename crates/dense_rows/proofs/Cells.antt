-- Laws of `dense`: what a place holds by its mark, and after a store there or elsewhere.
use Rattle.std.proofs.Common.{None, Some}
use Prim.Native.Nat.{ℕ, zero, suc, ◌<◌}
use native.Mathlib.Omega.{arith}
use mathlib.Core.Path.{◌≡◌, refl, ◌∙◌}
use mathlib.Core.List.{List}
use lib.ListN.{set, replicate, length-set, length-replicate}
use lib.Seq.{get_or-set_same, get_or-set_other}
use borrow.Author.Tests.{eq-eqb, ne_eqb}
use Rattle.limits.specs.Limits.{max_cols}
use Rattle.words.specs.Words.{at}
use Rattle.dense_rows.specs.Dense.{dense, Sized, Spread}

module _ (marks cells : List ℕ) (j : ℕ) where
  pub dense_unmarked : at marks j ≡ 0 → dense marks cells j ≡ None
  unfolding dense
  dense_unmarked e = rw (eq-eqb (at marks j) 0 e)

  pub dense_marked : (at marks j ≡ 0 → ⊥) → dense marks cells j ≡ Some (at cells j)
  unfolding dense
  dense_marked e = rw (ne_eqb (at marks j) 0 e)

-- a word of an array of zeros, and past its end
zeros_at : (n j : ℕ) → at (replicate n 0) j ≡ 0
zeros_at zero j = refl
zeros_at (suc n) zero = refl
zeros_at (suc n) (suc j) = zeros_at n j

-- new arrays hold a row without entries
pub spread_none : Spread (λ j. None) (replicate max_cols 0) (replicate max_cols 0)
spread_none =
    let size = length-replicate {A = ℕ} max_cols 0 in
    record {
      sized = record { marks_size = size; cells_size = size };
      cell = λ j. dense_unmarked (replicate max_cols 0) (replicate max_cols 0) j (zeros_at max_cols j);
    }

-- a value v is stored at place c, and marked
module _ {marks cells : List ℕ} (s : Sized marks cells) (c v : ℕ) where
  pub stored_sized : Sized (set marks c 1) (set cells c v)
  stored_sized = record {
    marks_size = length-set marks c 1 ∙ s.marks_size;
    cells_size = length-set cells c v ∙ s.cells_size;
  }

  pub stored_here : c < max_cols → dense (set marks c 1) (set cells c v) c ≡ Some v
  stored_here l =
      dense_marked (set marks c 1) (set cells c v) c (λ e. omega (arith, get_or-set_same marks c 1 0 (omega arith)))
      ∙ rw (get_or-set_same cells c v 0 (omega arith))

  pub stored_other : (j : ℕ) → (j ≡ c → ⊥) → dense (set marks c 1) (set cells c v) j ≡ dense marks cells j
  unfolding dense
  stored_other j n = rw (get_or-set_other marks c j 1 0 n, get_or-set_other cells c j v 0 n)
