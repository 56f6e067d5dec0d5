-- Laws of `listed_cell`: a cell by the index of its row or column in a list.
use Prim.Native.Nat.{ℕ, zero, suc, ◌<◌}
use native.Mathlib.Omega.{arith}
use native.Mathlib.Decide.{ℕ_discrete}
use mathlib.Core.Path.{◌≡◌, refl, sym, ap, ◌∙◌}
use mathlib.Core.List.{List}
use borrow.Author.Tests.{eq-eqb, ne_eqb}
use Rattle.words.specs.Words.{at}
use Rattle.grid.specs.Cell.{Cell}
use Rattle.operations.specs.CellOperations.{listed_cell}

-- it depends only on the cells of the indexes that are i
pub listed_same : (n : ℕ) (list : List ℕ) (i : ℕ) (f g : ℕ → Cell) (c d : Cell)
    → ((k : ℕ) → k < n → f k ≡ g k) → c ≡ d → listed_cell n list i f c ≡ listed_cell n list i g d
unfolding listed_cell
listed_same zero list i f g c d h e = e
listed_same (suc n) list i f g c d h e =
    rw (h n (omega arith), listed_same n list i f g c d (λ k l. h k (omega arith)) e)

-- where no index is i
pub listed_none : (n : ℕ) (list : List ℕ) (i : ℕ) (f : ℕ → Cell) (c : Cell) → ((k : ℕ) → k < n → at list k ≡ i → ⊥)
    → listed_cell n list i f c ≡ c
unfolding listed_cell
listed_none zero list i f c h = refl
listed_none (suc n) list i f c h =
    rw (ne_eqb (at list n) i (h n (omega arith))) (listed_none n list i f c (λ k l. h k (omega arith)))

-- where index k is i, and no other
pub listed_at : (n : ℕ) (list : List ℕ) (i k : ℕ) (f : ℕ → Cell) (c : Cell) → k < n → at list k ≡ i
    → ((h : ℕ) → h < n → at list h ≡ i → h ≡ k) → listed_cell n list i f c ≡ f k
unfolding listed_cell
listed_at zero list i k f c l e only = absurd (omega arith)
listed_at (suc n) list i k f c l e only =
    go (ℕ_discrete k n) (λ m. listed_at n list i k f c m e (λ h q z. only h (omega arith) z))
  where
    go : Dec (k ≡ n) → (k < n → listed_cell n list i f c ≡ f k) → listed_cell (suc n) list i f c ≡ f k
    go (yes d) before = rw (eq-eqb (at list n) i (ap (at list) (sym d) ∙ e)) (ap f (sym d))
    go (no d) before = rw (ne_eqb (at list n) i (λ z. d (sym (only n (omega arith) z)))) (before (omega arith))
