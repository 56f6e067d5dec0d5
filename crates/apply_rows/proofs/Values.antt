-- The loop of `apply_values`: after k turns the first k values are in place.
use Prim.Native.Nat.{ℕ, zero, suc, ◌+◌, ◌<◌}
use native.Mathlib.Omega.{arith}
use mathlib.Core.Path.{◌≡◌, refl, sym, ap, ◌∙◌}
use mathlib.Core.List.{List, [], ◌∷◌, map}
use lib.ListN.{length, set, length-map}
use lib.Seq.{paste}
use Rattle.words.specs.Words.{at}
use Rattle.words.proofs.Overwrite.{copy_turn}

-- the words of a mapped list
pub at_map : (f : ℕ → ℕ) (l : List ℕ) (k : ℕ) → k < length l → at (map f l) k ≡ f (at l k)
at_map f [] k h = absurd (omega arith)
at_map f (x ∷ l) zero h = refl
at_map f (x ∷ l) (suc k) h = at_map f l k (omega arith)

-- one value more
pub value_turn : (f : ℕ → ℕ) (d : List ℕ) (a : ℕ) (l : List ℕ) (k y : ℕ) → a + k < length d → k < length l
    → y ≡ f (at l k) → set (paste d a (map f l) k) (a + k) y ≡ paste d a (map f l) (k + 1)
value_turn f d a l k y h b e =
    ap (set (paste d a (map f l) k) (a + k)) (e ∙ sym (at_map f l k b))
    ∙ copy_turn d a (map f l) k h (omega (arith, length-map l f))
