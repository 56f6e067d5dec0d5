-- The loop of `apply_row`: what it has written when it stands at entry p of the row.
use Rattle.std.proofs.Common.{Some}
use Prim.Native.Nat.{ℕ, ◌+◌, ◌≤◌, ◌<◌}
use native.Mathlib.Omega.{arith}
use mathlib.Core.Path.{◌≡◌, refl, ◌∙◌}
use mathlib.Core.List.{List}
use lib.ListN.{length, set, length-set}
use Rattle.words.specs.Words.{at}
use Rattle.grid.specs.Cell.{Cell}
use Rattle.operators.specs.declared.ApplyOp.{ApplyOp}
use Rattle.operators.specs.Operators.{entry_word}
use Rattle.operations.specs.CellOperations.{apply_cell}
use Rattle.rows.specs.Row.{lookup, Row, Holds}
use Rattle.rows.proofs.Holds.{holds_none, holds_most, holds_put, holds_skip}
use Rattle.rows.proofs.Walk.{front, front_at, front_end, front_above, lookup_entry, absent_first, absent_next}

-- row i of the result
abbrev applied : ApplyOp → ℕ → List ℕ → List ℕ → ℕ → Cell
applied op i cols vals j = apply_cell op i j (lookup cols vals j)

-- the entries before p are written, and the buffers are as long as they were
pub record Applying (n : ℕ) (op : ApplyOp) (i : ℕ) (cols vals oc₀ ov₀ oc ov : List ℕ) (p : ℕ) : Type 0 where
  pub out : Holds (front n cols p) (applied op i cols vals) p oc ov
  pub long_cols : length oc ≡ length oc₀
  pub long_vals : length ov ≡ length ov₀

module _ {n : ℕ} {cols vals : List ℕ} (w : Row n cols vals) where
  -- before the first entry
  pub applying_start : (op : ApplyOp) (i : ℕ) (oc ov : List ℕ)
      → Applying n op i cols vals oc ov oc ov 0
  applying_start op i oc ov = record {
    out = holds_skip (holds_none _ oc ov) (front n cols 0) (omega arith) (λ j a b. rw (absent_first w j b));
    long_cols = refl;
    long_vals = refl;
  }

  module _ {op : ApplyOp} {i : ℕ} {oc₀ ov₀ oc ov : List ℕ} {p : ℕ}
      (h : Applying n op i cols vals oc₀ ov₀ oc ov p) where
    -- there is room for entry p
    pub applying_room : p < length cols → p < n
    applying_room l = omega (arith, holds_most h.out, front_at n cols p l, w.small p l)

    -- entry p is written, with the value x
    pub applying_step : {x : ℕ} → p < length cols → n ≤ length oc₀ → n ≤ length ov₀
        → x ≡ entry_word op (at vals p) i (at cols p)
        → Applying n op i cols vals oc₀ ov₀ (set oc p (at cols p)) (set ov p x) (p + 1)
    applying_step {x} l a b e =
        let room = applying_room l in
        let before : Holds (at cols p) (applied op i cols vals) p oc ov = rw (front_at n cols p l) at h.out in
        let here : applied op i cols vals (at cols p) ≡ Some x = rw (lookup_entry w p l, e) in
        record {
          out = holds_skip (holds_put before (omega (arith, h.long_cols)) (omega (arith, h.long_vals)) here)
              (front n cols (p + 1)) (omega (arith, front_above w p (p + 1) (omega arith) l))
              (λ j u v. rw (absent_next w p j l (omega arith) v));
          long_cols = length-set oc p (at cols p) ∙ h.long_cols;
          long_vals = length-set ov p x ∙ h.long_vals;
        }

    -- behind the last entry the row is whole
    pub applying_done : length cols ≤ p → Holds n (applied op i cols vals) p oc ov
    applying_done l = rw (front_end n cols p l) at h.out
