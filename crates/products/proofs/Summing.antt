-- The loop of `add_rows`: the rows of the matrix b that the entries before p name are added up.
use Rattle.std.proofs.Common.{None}
use Prim.Native.Nat.{ℕ, ◌+◌, ◌≤◌, ◌<◌}
use mathlib.Core.List.{List}
use lib.ListN.{length}
use Rattle.limits.specs.Limits.{max_cols}
use Rattle.words.specs.Words.{at}
use Rattle.grid.specs.Cell.{Cell}
use Rattle.operators.specs.declared.BinaryOp.{BinaryOp}
use Rattle.operators.specs.declared.Monoid.{Monoid}
use Rattle.operations.specs.CellOperations.{dot}
use Rattle.rows.specs.Row.{lookup, Row}
use Rattle.rows.proofs.Walk.{row_wider}
use Rattle.matrix.specs.Layout.{rows, row_columns, row_values}
use Rattle.matrix.specs.Facts.{Matrix}
use Rattle.matrix.proofs.Facts.{matrix_made}
use Rattle.encoding.proofs.Canonical.{valid_row}
use Rattle.dense_rows.specs.Dense.{dense, Sized, Spread}
use Rattle.products.specs.Products.{added_row}
use Rattle.products.proofs.Sums.{Sums, sums_start, sums_step, sums_done}

-- row k of a matrix fits the dense row
pub matrix_row : (b : List ℕ) → Matrix b → (k : ℕ) → k < rows b → Row max_cols (row_columns b k) (row_values b k)
matrix_row b m k l = row_wider (valid_row b (matrix_made b m) k l) m.header.col_range.most

-- the dense row has the sums of the products at the places before entry p
pub record Summing (monoid : Monoid) (op : BinaryOp) (n : ℕ) (cols vals : List ℕ) (b : ℕ → ℕ → Cell)
    (marks cells : List ℕ) (p : ℕ) : Type 0 where
  pub sized : Sized marks cells
  pub sums : Sums monoid op n cols vals b (dense marks cells) p

module _ {n : ℕ} {cols vals : List ℕ} (w : Row n cols vals) {monoid : Monoid} {op : BinaryOp} {b : ℕ → ℕ → Cell} where
  pub summing_start : {marks cells : List ℕ} → Spread (λ j. None) marks cells
      → Summing monoid op n cols vals b marks cells 0
  summing_start s = record { sized = s.sized; sums = sums_start w s.cell }

  module _ {marks cells : List ℕ} {p : ℕ} (h : Summing monoid op n cols vals b marks cells p) where
    -- entry p times its row of b is added
    pub summing_step : {marks' cells' : List ℕ} → p < length cols
        → Spread (added_row monoid op (at vals p) (b (at cols p)) (dense marks cells)) marks' cells'
        → Summing monoid op n cols vals b marks' cells' (p + 1)
    summing_step l s = record { sized = s.sized; sums = sums_step w h.sums l s.cell }

    pub summing_done : length cols ≤ p
        → Spread (λ j. dot monoid op n (lookup cols vals) (λ k. b k j)) marks cells
    summing_done l = record { sized = h.sized; cell = sums_done w h.sums l }
