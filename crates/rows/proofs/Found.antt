-- What a search for a column tells of the cell there: `lookup` at the position that was found.
use Rattle.std.proofs.Common.{None, Some}
use Prim.Native.Nat.{ℕ, zero, suc, ◌<◌}
use native.Mathlib.Omega.{arith}
use native.Mathlib.Decide.{dec_lt}
use mathlib.Core.Path.{◌≡◌, refl, ap, ◌∙◌}
use mathlib.Core.List.{List, [], ◌∷◌}
use lib.ListN.{length}
use borrow.Author.Tests.{eq-eqb, ne_eqb}
use Rattle.words.specs.Words.{at}
use Rattle.rows.specs.Row.{lookup, position, Rises}
use Rattle.rows.proofs.Search.{Below}
use Rattle.rows.proofs.Position.{Stands, stands}

-- a column that is at no index has no value
pub lookup_absent : (cols vals : List ℕ) (j : ℕ) → ((k : ℕ) → k < length cols → at cols k ≡ j → ⊥)
    → lookup cols vals j ≡ None
unfolding lookup
lookup_absent [] vals j h = refl
lookup_absent (c ∷ cols) [] j h = refl
lookup_absent (c ∷ cols) (v ∷ vals) j h =
    rw (ne_eqb c j (h 0 (omega arith))) (lookup_absent cols vals j (λ k l e. h (suc k) (omega arith) e))

-- a column that is at index p, and at none before it, has the value beside it
pub lookup_at : (cols vals : List ℕ) (p : ℕ) → length vals ≡ length cols → p < length cols
    → Below (at cols p) cols p → lookup cols vals (at cols p) ≡ Some (at vals p)
unfolding lookup
lookup_at [] vals p e l b = absurd (omega arith)
lookup_at (c ∷ cols) [] p e l b = absurd (omega arith)
lookup_at (c ∷ cols) (v ∷ vals) zero e l b = rw (eq-eqb c c refl)
lookup_at (c ∷ cols) (v ∷ vals) (suc p) e l b =
    let u : c < at cols p = b 0 (omega arith) in
    rw (ne_eqb c (at cols p) (λ q. omega arith))
    (lookup_at cols vals p (omega arith) (omega arith) (λ k m. b (suc k) (omega arith)))

-- for a search that has given p, and then tested `p < cols.len()` and `cols[p] == j`
module _ (cols vals : List ℕ) (even : length vals ≡ length cols) (rises : Rises cols) (j p : ℕ)
    (e : p ≡ position j cols) where
  placed : Stands j cols p
  placed = rw e (stands j cols rises)

  -- the column at the position is j
  pub lookup_found : p < length cols → at cols p ≡ j → lookup cols vals j ≡ Some (at vals p)
  lookup_found l h = rw (← h) (lookup_at cols vals p even l (rw h placed.before))

  -- there is no column at the position, or it is another one
  pub lookup_missing : (p < length cols → at cols p ≡ j → ⊥) → lookup cols vals j ≡ None
  lookup_missing h = lookup_absent cols vals j (λ k l q. go k l q (dec_lt k p) (dec_lt p k))
    where
      go : (k : ℕ) → k < length cols → at cols k ≡ j → Dec (k < p) → Dec (p < k) → ⊥
      go k l q (yes m) d = let u = placed.before k m in omega arith
      go k l q (no m) (yes d) =
          let u = rises.up p k d l in
          let v = placed.after p (omega arith) (omega arith) in
          omega arith
      go k l q (no m) (no d) = let z : p ≡ k = omega arith in h (omega arith) (ap (at cols) z ∙ q)
