-- The loop of `invert`: the places of the indexes before j stand at their columns.
use Prim.Native.Nat.{ℕ, zero, suc, ◌+◌, ◌<◌}
use native.Mathlib.Omega.{arith}
use native.Mathlib.Decide.{ℕ_discrete}
use mathlib.Core.Path.{◌≡◌, refl, sym, ◌∙◌}
use mathlib.Core.List.{List}
use lib.ListN.{length, set, replicate, length-set, length-replicate}
use lib.Seq.{get_or-set_same, get_or-set_other}
use Rattle.limits.specs.Limits.{max_cols}
use Rattle.words.specs.Words.{at}
use Rattle.extract_rows.specs.Indices.{Indices, InverseTo}

zeros_at : (n k : ℕ) → at (replicate n 0) k ≡ 0
zeros_at zero k = refl
zeros_at (suc n) zero = refl
zeros_at (suc n) (suc k) = zeros_at n k

-- zeros name no place
pub inverse_none : (list : List ℕ) {inv : List ℕ} → inv ≡ replicate max_cols 0 → InverseTo 0 list inv
inverse_none list z = rw z (record {
  sized = length-replicate {A = ℕ} max_cols 0;
  named = λ j m. absurd (omega arith);
  only = λ k j e. absurd (omega (arith, zeros_at max_cols k));
})

-- one index more
module _ {list inv : List ℕ} {j : ℕ} (w : Indices list) (h : InverseTo j list inv) (l : j < length list) where
  inverse_here : at (set inv (at list j) (j + 1)) (at list j) ≡ j + 1
  inverse_here = get_or-set_same inv (at list j) (j + 1) 0 (omega (arith, w.index j l, h.sized))

  pub inverse_step : InverseTo (j + 1) list (set inv (at list j) (j + 1))
  inverse_step = record {
    sized = length-set inv (at list j) (j + 1) ∙ h.sized;
    named = λ a m. named a m (ℕ_discrete a j);
    only = λ k a e. only k a e (ℕ_discrete k (at list j));
  }
    where
      named : (a : ℕ) → a < j + 1 → Dec (a ≡ j) → at (set inv (at list j) (j + 1)) (at list a) ≡ a + 1
      named a m (yes d) = rw d inverse_here
      named a m (no d) =
          get_or-set_other inv (at list j) (at list a) (j + 1) 0 (λ e. w.once a j (omega arith) l e)
          ∙ h.named a (omega arith)

      only : (k a : ℕ) → at (set inv (at list j) (j + 1)) k ≡ a + 1 → Dec (k ≡ at list j)
          → (a < j + 1) × (at list a ≡ k)
      only k a e (yes d) =
          let v : at (set inv (at list j) (j + 1)) k ≡ j + 1 = rw d inverse_here in
          let z : a ≡ j = omega arith in
          (omega arith, rw z (sym d))
      only k a e (no d) =
          let o = h.only k a (sym (get_or-set_other inv (at list j) k (j + 1) 0 d) ∙ e) in
          (omega (arith, o.0), o.1)
