-- A loop over the entries of a row that does one thing for the column of each: what holds of the columns visited, and
-- of those still to come.
use Prim.Native.Nat.{ℕ, ◌+◌, ◌≤◌, ◌<◌}
use native.Mathlib.Omega.{arith}
use native.Mathlib.Decide.{dec_lt, ℕ_discrete}
use mathlib.Core.Path.{◌≡◌, sym, ap, ◌∙◌}
use mathlib.Core.List.{List}
use lib.ListN.{length}
use Rattle.words.specs.Words.{at}
use Rattle.rows.specs.Row.{Rises}

-- at entry p: After holds of the columns that are not to come, as of those that the row lacks, and Before of the others
pub record Traversal (columns : List ℕ) (Before After : ℕ → Type 0) (p : ℕ) : Type 0 where
  pub within : p ≤ length columns
  pub visited : (j : ℕ) → ((k : ℕ) → p ≤ k → k < length columns → at columns k ≡ j → ⊥) → After j
  pub pending : (k : ℕ) → p ≤ k → k < length columns → Before (at columns k)

-- at the first entry: Before holds of every column, and After of those that the row lacks
pub traversal_start : {columns : List ℕ} {Before After : ℕ → Type 0}
    → ((j : ℕ) → ((k : ℕ) → k < length columns → at columns k ≡ j → ⊥) → After j) → ((j : ℕ) → Before j)
    → Traversal columns Before After 0
traversal_start {columns} f g = record {
  within = omega arith;
  visited = λ j h. f j (λ k l e. h k (omega arith) l e);
  pending = λ k l m. g (at columns k);
}

module _ {columns : List ℕ} {Before After : ℕ → Type 0} {p : ℕ} (h : Traversal columns Before After p) where
  -- an entry more: After holds of its column, and what held of the others still does
  pub traversal_step : {Before' After' : ℕ → Type 0} → Rises columns → p < length columns
      → (Before (at columns p) → After' (at columns p))
      → ((j : ℕ) → (j ≡ at columns p → ⊥) → After j → After' j)
      → ((j : ℕ) → (j ≡ at columns p → ⊥) → Before j → Before' j)
      → Traversal columns Before' After' (p + 1)
  traversal_step {Before'} {After'} r l turn keeps-after keeps-before = record {
    within = omega arith;
    visited = λ j f. go j f (ℕ_discrete j (at columns p));
    pending = λ k u w.
        keeps-before (at columns k) (λ z. omega (arith, r.up p k (omega arith) w)) (h.pending k (omega arith) w);
  }
    where
      -- a column other than that of entry p, and not to come after it, is not to come from entry p on
      other : (j k : ℕ) → ((k : ℕ) → p + 1 ≤ k → k < length columns → at columns k ≡ j → ⊥)
          → (j ≡ at columns p → ⊥) → p ≤ k → k < length columns → at columns k ≡ j → Dec (p < k) → ⊥
      other j k f d u w z (yes x) = f k (omega arith) w z
      other j k f d u w z (no x) = let y : p ≡ k = omega arith in d (sym (ap (at columns) y ∙ z))

      -- column j is the one of entry p, or another
      go : (j : ℕ) → ((k : ℕ) → p + 1 ≤ k → k < length columns → at columns k ≡ j → ⊥)
          → Dec (j ≡ at columns p) → After' j
      go j f (yes e) = rw e (turn (h.pending p (omega arith) l))
      go j f (no d) = keeps-after j d (h.visited j (λ k u w z. other j k f d u w z (dec_lt p k)))

  -- at the end After holds of every column
  pub traversal_done : length columns ≤ p → (j : ℕ) → After j
  traversal_done l j = h.visited j (λ k u w z. omega arith)
