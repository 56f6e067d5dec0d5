-- The loop of `reduce_rows`: what it has written when it stands at row j of the matrix.
use Rattle.std.proofs.Common.{None, Some}
use Prim.Native.Nat.{ℕ, ◌+◌, ◌≤◌, ◌<◌}
use native.Mathlib.Omega.{arith}
use mathlib.Core.Path.{◌≡◌, refl, sym, ap, ◌∙◌}
use mathlib.Core.List.{List}
use lib.ListN.{length, set, length-set}
use Rattle.grid.specs.Cell.{Cell}
use Rattle.operators.specs.declared.Monoid.{Monoid}
use Rattle.reductions.specs.Reductions.{reduced, reduced_row}
use Rattle.rows.specs.Row.{Holds}
use Rattle.rows.proofs.Holds.{holds_none, holds_most, holds_put, holds_skip}
use Rattle.matrix.specs.Layout.{rows, cols, row_values, cell_of}
use Rattle.matrix.specs.Facts.{Matrix}
use Rattle.matrix.proofs.Facts.{matrix_made}
use Rattle.encoding.proofs.Canonical.{valid_row_values}

-- the totals of the rows
abbrev totals : Monoid → List ℕ → ℕ → Cell
totals m s j = reduced_row m (cols s) (cell_of s j)

-- the total of row j is that of its values
total_of : (m : Monoid) (s : List ℕ) → Matrix s → (j : ℕ) → j < rows s → reduced m (row_values s j) ≡ totals m s j
unfolding reduced_row
total_of m s w j l = ap (reduced m) (valid_row_values s (matrix_made s w) j l)

-- the totals of the rows before j are written, e of them, and the buffers are as long as they were
pub record Reducing (m : Monoid) (s oc₀ ov₀ oc ov : List ℕ) (j e : ℕ) : Type 0 where
  pub out : Holds j (totals m s) e oc ov
  pub within : j ≤ rows s
  pub long_cols : length oc ≡ length oc₀
  pub long_vals : length ov ≡ length ov₀

-- before the first row
pub reducing_start : (m : Monoid) (s oc ov : List ℕ) → Reducing m s oc ov oc ov 0 0
reducing_start m s oc ov =
    record { out = holds_none (totals m s) oc ov; within = omega arith; long_cols = refl; long_vals = refl }

module _ {m : Monoid} {s : List ℕ} (w : Matrix s) {oc₀ ov₀ oc ov : List ℕ} {j e : ℕ}
    (h : Reducing m s oc₀ ov₀ oc ov j e) where
  -- there is room for a total
  pub reducing_room : j < rows s → e < rows s
  reducing_room l = omega (arith, holds_most h.out)

  -- row j has a total
  pub reducing_put : {x : ℕ} → j < rows s → rows s ≤ length oc₀ → rows s ≤ length ov₀
      → reduced m (row_values s j) ≡ Some x → Reducing m s oc₀ ov₀ (set oc e j) (set ov e x) (j + 1) (e + 1)
  reducing_put {x} l a b t =
      let room = reducing_room l in
      record {
        out = holds_put h.out (omega (arith, h.long_cols)) (omega (arith, h.long_vals)) (sym (total_of m s w j l) ∙ t);
        within = omega arith;
        long_cols = length-set oc e j ∙ h.long_cols;
        long_vals = length-set ov e x ∙ h.long_vals;
      }

  -- or none
  pub reducing_skip : j < rows s → reduced m (row_values s j) ≡ None → Reducing m s oc₀ ov₀ oc ov (j + 1) e
  reducing_skip l t = record {
    out = holds_skip h.out (j + 1) (omega arith)
        (λ i u v. let q : i ≡ j = omega arith in rw q (sym (total_of m s w j l) ∙ t));
    within = omega arith;
    long_cols = h.long_cols;
    long_vals = h.long_vals;
  }

  -- behind the last row every total is written
  pub reducing_done : rows s ≤ j → Holds (rows s) (totals m s) e oc ov
  reducing_done l = let q : rows s ≡ j = omega (arith, h.within) in rw q h.out
