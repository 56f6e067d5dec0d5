-- Finding a cell of a valid matrix takes at most eleven looks, whatever the row and the column: the columns of a row rise
-- below the limit, so there are no more of them, and the limit is below 2 ^ 10.
use Prim.Native.Nat.{ℕ, ◌≤◌, ◌<◌}
use native.Mathlib.Omega.{arith}
use mathlib.Core.List.{List}
use lib.ListN.{length}
use Rattle.limits.specs.Limits.{max_cols}
use Rattle.rows.specs.Looks.{looks_for, most_looks}
use Rattle.rows.proofs.Rising.{rising_few}
use Rattle.rows.proofs.Halving.{eleven}
use Rattle.matrix.specs.Layout.{rows, row_columns}
use Rattle.matrix.specs.Facts.{Matrix}

-- a row has no more columns than the matrix
row_short : (s : List ℕ) (i : ℕ) → Matrix s → i < rows s → length (row_columns s i) ≤ max_cols
row_short s i m l =
    let u = rising_few _ 0 (row_columns s i) (m.rising i l) (omega arith) in
    let k = m.header.col_range.most in
    omega arith

pub cell_looks : (s : List ℕ) (i j : ℕ) → Matrix s → i < rows s → looks_for j (row_columns s i) ≤ most_looks
cell_looks s i j m l = let u = row_short s i m l in eleven j (row_columns s i) (omega arith)
