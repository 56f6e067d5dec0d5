-- What the search finds in a row of a valid matrix is `entry_at`: the position in the row, after the start of the row.
use Prim.Native.Nat.{ℕ, ◌+◌, ◌≤◌, ◌<◌}
use native.Mathlib.Omega.{arith}
use mathlib.Core.Path.{◌≡◌, refl, sym, ap, ◌∙◌}
use mathlib.Core.List.{List}
use lib.ListN.{length}
use lib.Seq.{length-take-le}
use Rattle.limits.specs.Limits.{max_entries}
use Rattle.grid.specs.declared.EntryAt.{EntryAt}
use Rattle.grid.specs.Entries.{column, gather}
use Rattle.grid.specs.Position.{entry_position, entry_of, entry_at}
use Rattle.rows.specs.Row.{position, lookup, Rises, Row}
use Rattle.rows.proofs.Position.{stands}
use Rattle.rows.proofs.Lookup.{gathered}
use Rattle.matrix.specs.Layout.{rows, cols, start, row_columns, row_values, cell_of, grid_of}
use Rattle.matrix.specs.Facts.{RowSpan, Matrix}
use Rattle.matrix.proofs.Facts.{matrix_made, row_span}
use Rattle.matrix.proofs.Rows.{columns_length, row_even}
use Rattle.encoding.proofs.Canonical.{valid_row, valid_before}

module _ (s : List ℕ) (i : ℕ) (m : Matrix s) (l : i < rows s) where
  -- where the row lies, and that it is a valid one
  pub span : RowSpan s i
  span = row_span s m.starts i l

  row : Row (cols s) (row_columns s i) (row_values s i)
  row = valid_row s (matrix_made s m) i l

  -- the entries before the row and its own are among the N
  row_few : start s i + length (row_columns s i) ≤ max_entries
  row_few = omega (arith, columns_length s i m.header span, span.top, m.header.few)

  -- the position of column j counts the entries of the row in columns before j
  counts : (j : ℕ) → position j (row_columns s i) ≡ length (gather column j (cell_of s i))
  unfolding cell_of
  counts j =
      sym (ap length (gathered row column (row_columns s i) refl (λ p. refl) j)
      ∙ length-take-le (position j (row_columns s i)) (row_columns s i) (stands j _ row.rises).within)

  -- after the start of the row it is the position among all entries
  after_start : (j : ℕ) → start s i + position j (row_columns s i) ≡ entry_position (grid_of s) i j
  after_start j = omega (arith, counts j, valid_before s (matrix_made s m) i (omega arith))

  -- so the cell of the row with that position is the entry
  row_entry : (j : ℕ)
      → entry_of (lookup (row_columns s i) (row_values s i) j) (start s i + position j (row_columns s i))
      ≡ entry_at (grid_of s) i j
  unfolding entry_at cell_of
  row_entry j = ap (entry_of (lookup (row_columns s i) (row_values s i) j)) (after_start j)

  -- the two parts of the row as they were taken: what the search requires of them, and what it finds
  module _ (cs vs : List ℕ) (w : cs ≡ row_columns s i) (u : vs ≡ row_values s i) where
    pub parts_searchable : Rises cs × (length vs ≡ length cs) × (start s i + length cs ≤ max_entries)
    parts_searchable = rw (w, u) (row.rises, row_even s i m.header span, row_few)

    pub parts_entry : (j : ℕ) (r : EntryAt) → r ≡ entry_of (lookup cs vs j) (start s i + position j cs)
        → r ≡ entry_at (grid_of s) i j
    parts_entry j r e = e ∙ rw (w, u) (row_entry j)
