-- The words of a valid matrix are those of its grid: row by row, and section by section.
use Prim.Native.Nat.{ℕ, zero, suc, ◌+◌, ◌-◌, ◌≤◌, ◌<◌}
use native.Mathlib.Omega.{arith}
use native.Mathlib.Nat.{add-zero, le_refl}
use native.Mathlib.Numerals.{add-one}
use mathlib.Core.Path.{◌≡◌, sym, ap, ◌∙◌}
use mathlib.Core.List.{List}
use mathlib.Core.Bool.{true}
use lib.ListN.{length}
use Rattle.words.specs.Words.{part}
use Rattle.words.proofs.Parts.{part_empty, length_part, part_append}
use Rattle.grid.specs.Entries.{column, value, gather, flatten, grid_columns, grid_values, entry_count}
use Rattle.rows.specs.Row.{Row}
use Rattle.rows.proofs.Lookup.{rising_row, gather_lookup_columns, gather_lookup_values}
use Rattle.matrix.specs.Layout.{
  columns_at,
  count_again_at,
  values_at,
  rows,
  cols,
  start,
  entries,
  size,
  row_columns,
  row_values,
  cell_of,
  grid_of,
}
use Rattle.matrix.specs.Valid.{valid}
use Rattle.matrix.specs.Facts.{Matrix, RowSpan}
use Rattle.matrix.proofs.Facts.{matrix_facts, row_span}
use Rattle.matrix.proofs.HeaderWords.{header_own}
use Rattle.encoding.specs.Encode.{entries_before}
use Rattle.encoding.proofs.Assembled.{Assembled}

module _ (s : List ℕ) (v : valid s ≡ true) where
  -- what validity says: all of it, of the entries of row i, and that the matrix fits
  facts : Matrix s
  facts = matrix_facts s v

  span : (i : ℕ) → i < rows s → RowSpan s i
  span = row_span s facts.starts

  fits : size s ≤ length s
  fits = facts.header.fits

  -- how many columns or values row i has, in a section that begins at b
  row_length : (b i : ℕ) → i < rows s → b + entries s ≤ length s
      → length (part (b + start s i) (b + start s (i + 1)) s) ≡ start s (i + 1) - start s i
  row_length b i l h =
      let r = span i l in length_part (b + start s i) (b + start s (i + 1)) s (omega arith) ∙ omega arith

  -- the facts of row i
  pub valid_row : (i : ℕ) → i < rows s → Row (cols s) (row_columns s i) (row_values s i)
  valid_row i l =
      let c = row_length (columns_at (rows s)) i l (omega (arith, fits)) in
      let w = row_length (values_at (rows s) (entries s)) i l (omega (arith, fits)) in
      rising_row (cols s) (row_columns s i) (row_values s i) (facts.rising i l) (w ∙ sym c)

  -- its column numbers are those that its cells gather
  pub valid_row_columns : (i : ℕ) → i < rows s → row_columns s i ≡ gather column (cols s) (cell_of s i)
  unfolding cell_of
  valid_row_columns i l = sym (gather_lookup_columns (valid_row i l))

  -- and so are its values
  pub valid_row_values : (i : ℕ) → i < rows s → row_values s i ≡ gather value (cols s) (cell_of s i)
  unfolding cell_of
  valid_row_values i l = sym (gather_lookup_values (valid_row i l))

  -- a section of columns or values, from its first word on, is that of the first k rows
  flatten_part : (emit : ℕ → ℕ → ℕ) (b : ℕ)
      → ((i : ℕ) → i < rows s → part (b + start s i) (b + start s (i + 1)) s ≡ gather emit (cols s) (cell_of s i))
      → (k : ℕ) → k ≤ rows s → flatten emit (cols s) (cell_of s) k ≡ part b (b + start s k) s
  unfolding flatten
  flatten_part emit b row zero l = rw (facts.starts.first, add-zero b, part_empty b s)
  flatten_part emit b row (suc k) l =
      let up = (span k l).up in
      rw (flatten_part emit b row k (omega arith), ← (row k l), ← (add-one k))
      (sym (part_append b (b + start s k) (b + start s (k + 1)) s (omega arith) (omega arith)))

  -- no start is above N
  start_top : (k : ℕ) → k ≤ rows s → start s k ≤ entries s
  start_top zero l = omega (arith, facts.starts.first)
  start_top (suc k) l = rw (← (add-one k)) (span k l).top

  -- a row start counts the entries before it
  pub valid_before : (k : ℕ) → k ≤ rows s → entries_before (grid_of s) k ≡ start s k
  valid_before k l =
      let b = columns_at (rows s) in
      ap length (flatten_part column b valid_row_columns k l)
      ∙ length_part b (b + start s k) s (omega (arith, fits, start_top k l)) ∙ omega arith

  -- and N all of them
  pub valid_entries : entry_count (grid_of s) ≡ entries s
  valid_entries = valid_before (rows s) (le_refl (rows s)) ∙ facts.starts.last

  -- the column numbers of the grid's writing are those of the words
  pub valid_columns : grid_columns (grid_of s) ≡ part (columns_at (rows s)) (count_again_at (rows s) (entries s)) s
  valid_columns =
      let b = columns_at (rows s) in
      flatten_part column b valid_row_columns (rows s) (le_refl (rows s))
      ∙ ap (λ (e : ℕ). part b e s) (omega (arith, facts.starts.last))

  -- and the values
  pub valid_values : grid_values (grid_of s) ≡ part (values_at (rows s) (entries s)) (size s) s
  valid_values =
      let b = values_at (rows s) (entries s) in
      flatten_part value b valid_row_values (rows s) (le_refl (rows s))
      ∙ ap (λ (e : ℕ). part b e s) (omega (arith, facts.starts.last))

  -- every section of the grid's writing stands in the words, and its header too
  pub valid_assembled : Assembled (grid_of s) s
  valid_assembled =
      let n = valid_entries in
      record {
        sections = record {
          fits = omega (arith, fits);
          starts = λ i l. sym (valid_before i l);
          columns = rw n (sym valid_columns);
          values = rw n (sym valid_values);
        };
        header = rw n (header_own facts.header);
      }
