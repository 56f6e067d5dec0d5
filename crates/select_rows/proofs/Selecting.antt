-- The loop of `select_row`: what it has written when it stands at entry p of the row.
use Rattle.std.proofs.Common.{None, Some}
use Prim.Native.Nat.{ℕ, ◌+◌, ◌≤◌, ◌<◌}
use native.Mathlib.Omega.{arith}
use mathlib.Core.Path.{◌≡◌, refl, ◌∙◌}
use mathlib.Core.Bool.{true, false}
use mathlib.Core.List.{List}
use lib.ListN.{length, set, length-set}
use Rattle.words.specs.Words.{at}
use Rattle.grid.specs.Cell.{Cell}
use Rattle.select_ops.specs.declared.SelectOp.{SelectOp}
use Rattle.select_ops.specs.Selects.{selects}
use Rattle.operations.specs.CellOperations.{select_cell}
use Rattle.rows.specs.Row.{lookup, Row, Holds}
use Rattle.rows.proofs.Holds.{holds_none, holds_most, holds_put, holds_skip}
use Rattle.rows.proofs.Walk.{front, front_at, front_end, front_above, lookup_entry, absent_first, absent_next}

-- row i of the result
abbrev selected : SelectOp → ℕ → List ℕ → List ℕ → ℕ → Cell
selected op i cols vals j = select_cell op i j (lookup cols vals j)

-- of the entries before p those that are kept are written, e of them, and the buffers are as long as they were
pub record Selecting (n : ℕ) (op : SelectOp) (i : ℕ) (cols vals oc₀ ov₀ oc ov : List ℕ) (p e : ℕ) : Type 0 where
  pub out : Holds (front n cols p) (selected op i cols vals) e oc ov
  pub long_cols : length oc ≡ length oc₀
  pub long_vals : length ov ≡ length ov₀

module _ {n : ℕ} {cols vals : List ℕ} (w : Row n cols vals) where
  -- before the first entry
  pub selecting_start : (op : SelectOp) (i : ℕ) (oc ov : List ℕ) → Selecting n op i cols vals oc ov oc ov 0 0
  selecting_start op i oc ov = record {
    out = holds_skip (holds_none _ oc ov) (front n cols 0) (omega arith) (λ j a b. rw (absent_first w j b));
    long_cols = refl;
    long_vals = refl;
  }

  module _ {op : SelectOp} {i : ℕ} {oc₀ ov₀ oc ov : List ℕ} {p e : ℕ}
      (h : Selecting n op i cols vals oc₀ ov₀ oc ov p e) where
    -- there is room for entry p
    pub selecting_room : p < length cols → e < n
    selecting_room l = omega (arith, holds_most h.out, front_at n cols p l, w.small p l)

    -- what is written stands before entry p
    before : p < length cols → Holds (at cols p) (selected op i cols vals) e oc ov
    before l = rw (front_at n cols p l) at h.out

    -- entry p is kept
    pub selecting_kept : p < length cols → n ≤ length oc₀ → n ≤ length ov₀
        → selects op (at vals p) i (at cols p) ≡ true
        → Selecting n op i cols vals oc₀ ov₀ (set oc e (at cols p)) (set ov e (at vals p)) (p + 1) (e + 1)
    selecting_kept l a b t =
        let room = selecting_room l in
        let here : selected op i cols vals (at cols p) ≡ Some (at vals p) = rw (lookup_entry w p l, t) in
        record {
          out = holds_skip (holds_put (before l) (omega (arith, h.long_cols)) (omega (arith, h.long_vals)) here)
              (front n cols (p + 1)) (omega (arith, front_above w p (p + 1) (omega arith) l))
              (λ j u v. rw (absent_next w p j l (omega arith) v));
          long_cols = length-set oc e (at cols p) ∙ h.long_cols;
          long_vals = length-set ov e (at vals p) ∙ h.long_vals;
        }

    -- or not, and then neither it nor a column up to the next entry has one
    pub selecting_left : p < length cols → selects op (at vals p) i (at cols p) ≡ false
        → Selecting n op i cols vals oc₀ ov₀ oc ov (p + 1) e
    selecting_left l t =
        let here : selected op i cols vals (at cols p) ≡ None = rw (lookup_entry w p l, t) in
        record {
          out = holds_skip
              (holds_skip (before l) (at cols p + 1) (omega arith)
              (λ j u v. let q : j ≡ at cols p = omega arith in rw q here))
              (front n cols (p + 1)) (omega (arith, front_above w p (p + 1) (omega arith) l))
              (λ j u v. rw (absent_next w p j l (omega arith) v));
          long_cols = h.long_cols;
          long_vals = h.long_vals;
        }

    -- behind the last entry the row is whole
    pub selecting_done : length cols ≤ p → Holds n (selected op i cols vals) e oc ov
    selecting_done l = rw (front_end n cols p l) at h.out
