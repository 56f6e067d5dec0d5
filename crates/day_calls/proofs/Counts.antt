-- The entries of a matrix with another row, counted in the words.
use Prim.Native.Nat.{ℕ, ◌+◌, ◌<◌}
use native.Mathlib.Omega.{arith}
use mathlib.Core.Path.{◌≡◌, ap}
use mathlib.Core.List.{List}
use lib.ListN.{length}
use Rattle.grid.specs.Cell.{Cell}
use Rattle.grid.specs.Entries.{column, gather, entry_count}
use Rattle.matrix.specs.Layout.{rows, cols, start, entries, row_columns, cell_of, grid_of}
use Rattle.matrix.specs.Facts.{Matrix}
use Rattle.matrix.proofs.Facts.{matrix_made, row_span}
use Rattle.matrix.proofs.Rows.{columns_length}
use Rattle.encoding.proofs.Canonical.{valid_entries, valid_row_columns}
use Rattle.day_grids.specs.Day.{with_row}
use Rattle.day_grids.proofs.Rows.{with_row_count}
use Rattle.row_edits.specs.Replacing.{count_with}

-- `count_with` of the entries of the new row
pub row_counted : {s : List ℕ} {i : ℕ} (m : Matrix s) (l : i < rows s) (row : ℕ → Cell)
    → count_with (entries s) (start s i) (start s (i + 1)) (length (gather column (cols s) row))
    ≡ entry_count (with_row (grid_of s) i row)
row_counted {s} {i} m l row =
    let v = matrix_made s m in
    let x = row_span s m.starts i l in
    omega (
      arith,
      with_row_count (grid_of s) i row l,
      ap length (valid_row_columns s v i l),
      columns_length s i m.header x,
      valid_entries s v,
      x.up,
      x.top,
    )

-- the one row of a vector has all its entries
pub vector_row : {s : List ℕ} (m : Matrix s) → rows s ≡ 1 → length (row_columns s 0) ≡ entries s
vector_row {s} m e =
    let x = row_span s m.starts 0 (omega arith) in
    omega (arith, columns_length s 0 m.header x, m.starts.first, m.starts.last, ap (start s) e)

pub vector_gathered : {s : List ℕ} (m : Matrix s) → rows s ≡ 1
    → length (gather column (cols s) (cell_of s 0)) ≡ entries s
vector_gathered {s} m e =
    omega (arith, vector_row m e, ap length (valid_row_columns s (matrix_made s m) 0 (omega arith)))
