-- The matrix that a row is shown from, in words: its row is the folded grid's.
use Prim.Native.Nat.{ℕ, ◌≤◌, ◌<◌}
use native.Mathlib.Omega.{arith}
use mathlib.Core.Path.{◌≡◌, refl, ap, ◌∙◌}
use mathlib.Core.List.{List}
use mathlib.Core.Bool.{Bool, true, false, cond}
use lib.ListN.{length}
use Rattle.limits.specs.Limits.{max_cols}
use Rattle.grid.specs.Entries.{column, value, gather}
use Rattle.grid.proofs.Gather.{gather_most}
use Rattle.matrix.specs.Layout.{rows, cols, row_columns, row_values, cell_of, grid_of}
use Rattle.matrix.specs.Facts.{RowSpan, Matrix}
use Rattle.matrix.proofs.Facts.{matrix_made, row_span}
use Rattle.encoding.proofs.Canonical.{valid_row_columns, valid_row_values}
use Rattle.day_grids.specs.Day.{marked}
use Rattle.day_marks.specs.Marks.{Vector, shown_words}
use Rattle.day_requests.specs.Ready.{Pair}
use Rattle.day_folds.specs.Folding.{lent_fold}

module _ {base day marks : List ℕ} (p : Pair base day marks) where
  -- the marks have a column for each row
  pub vector_of_lem : (i : ℕ) → i < rows base → Vector marks i
  vector_of_lem i l = record {
    matrix = p.over.marks_valid;
    one_row = p.over.one_row;
    col = omega (arith, p.over.mark_rows, p.same_rows);
  }

  -- either matrix is valid, and has the base matrix's rows and columns
  module _ (i : ℕ) where
    matrix_of : (b : Bool) → Matrix (cond b day base)
    matrix_of true = p.over.day_valid
    matrix_of false = p.base_valid

    rows_of : (b : Bool) → rows (cond b day base) ≡ rows base
    rows_of true = p.same_rows
    rows_of false = refl

    pub shown_matrix : Matrix (shown_words base day marks i)
    shown_matrix = matrix_of (marked (grid_of marks) i)

    pub shown_rows : rows (shown_words base day marks i) ≡ rows base
    shown_rows = rows_of (marked (grid_of marks) i)

    module _ (l : i < rows base) where
      -- so it has row i
      pub shown_span : RowSpan (shown_words base day marks i) i
      shown_span = row_span _ shown_matrix.starts i (omega (arith, shown_rows))

      columns_of_lem : (b : Bool)
          → row_columns (cond b day base) i ≡ gather column (cols base) ((cond b (grid_of day) (grid_of base)).cell i)
      columns_of_lem true =
          valid_row_columns day (matrix_made day p.over.day_valid) i (omega (arith, p.same_rows))
          ∙ ap (λ (n : ℕ). gather column n (cell_of day i)) p.same_cols
      columns_of_lem false = valid_row_columns base (matrix_made base p.base_valid) i l

      values_of : (b : Bool)
          → row_values (cond b day base) i ≡ gather value (cols base) ((cond b (grid_of day) (grid_of base)).cell i)
      values_of true =
          valid_row_values day (matrix_made day p.over.day_valid) i (omega (arith, p.same_rows))
          ∙ ap (λ (n : ℕ). gather value n (cell_of day i)) p.same_cols
      values_of false = valid_row_values base (matrix_made base p.base_valid) i l

      -- its columns and values there
      pub shown_columns : row_columns (shown_words base day marks i) i
          ≡ gather column (cols base) ((lent_fold base day marks).cell i)
      shown_columns = columns_of_lem (marked (grid_of marks) i)

      pub shown_values : row_values (shown_words base day marks i) i
          ≡ gather value (cols base) ((lent_fold base day marks).cell i)
      shown_values = values_of (marked (grid_of marks) i)

      -- no more than there are columns
      pub shown_few : length (row_columns (shown_words base day marks i) i) ≤ max_cols
      shown_few =
          let g = gather_most column ((lent_fold base day marks).cell i) (cols base) in
          omega (arith, ap length shown_columns, p.base_valid.header.col_range.most)
