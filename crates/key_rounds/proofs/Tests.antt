-- Laws of `or`, `some` and `reached`.
use Prim.Native.Nat.{ℕ, zero, suc, ◌+◌, ◌<◌}
use native.Mathlib.Omega.{arith}
use native.Mathlib.Numerals.{add-one}
use mathlib.Core.Path.{◌≡◌, refl, ap}
use mathlib.Core.Bool.{Bool, true, false}
use Rattle.conditions.specs.Tests.{◌and◌}
use Rattle.conditions.proofs.Tests.{and_left, and_right, and_both}
use Rattle.grid.specs.Grid.{Grid}
use Rattle.key_rounds.specs.Rounds.{filled, ◌or◌, some, reached}

pub or_left : (a b : Bool) → a ≡ true → (a or b) ≡ true
unfolding ◌or◌
or_left a b h = rw h

pub or_none : (a : Bool) → (a or false) ≡ a
unfolding ◌or◌
or_none true = refl
or_none false = refl

pub or_assoc : (a b c : Bool) → ((a or b) or c) ≡ (a or (b or c))
unfolding ◌or◌
or_assoc true b c = refl
or_assoc false b c = refl

-- each part implies its counterpart
pub or_grows : (a b c d : Bool) → (a ≡ true → c ≡ true) → (b ≡ true → d ≡ true) → (a or b) ≡ true → (c or d) ≡ true
unfolding ◌or◌
or_grows true b c d f g h = rw (f refl)
or_grows false b true d f g h = refl
or_grows false b false d f g h = g h

-- one number more
pub some_next : (n : ℕ) (p : ℕ → Bool) → some (n + 1) p ≡ (some n p or p n)
unfolding some
some_next n p = rw (add-one n)

pub some_same : (n : ℕ) (p q : ℕ → Bool) → ((i : ℕ) → i < n → p i ≡ q i) → some n p ≡ some n q
unfolding some
some_same zero p q h = refl
some_same (suc n) p q h = rw (some_same n p q (λ i l. h i (omega arith)), h n (omega arith))

pub some_grows : (n : ℕ) (p q : ℕ → Bool) → ((i : ℕ) → i < n → p i ≡ true → q i ≡ true) → some n p ≡ true
    → some n q ≡ true
unfolding some
some_grows zero p q h e = e
some_grows (suc n) p q h e =
    or_grows (some n p) (p n) (some n q) (q n) (some_grows n p q (λ i l. h i (omega arith))) (h n (omega arith)) e

module _ (g : Grid) (from to : ℕ → Bool) (j : ℕ) where
  -- rows that are named alike reach alike
  pub reached_same : ((i : ℕ) → i < g.rows → from i ≡ to i) → reached g from j ≡ reached g to j
  unfolding reached
  reached_same h = some_same g.rows _ _ (λ i l. ap (λ (b : Bool). b and filled (g.cell i j)) (h i l))

  -- more rows reach more
  pub reached_grows : ((i : ℕ) → i < g.rows → from i ≡ true → to i ≡ true) → reached g from j ≡ true
      → reached g to j ≡ true
  unfolding reached
  reached_grows h =
      some_grows g.rows _ _
      (λ i l e. and_both (h i l (and_left (from i) _ e)) (and_right (from i) (filled (g.cell i j)) e))
