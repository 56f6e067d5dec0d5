-- Where the words of a grid's writing stand, with any revision v, and any words t behind them: what each accessor of a matrix reads there,
-- and that they are a valid matrix.
use Prim.Native.Nat.{ℕ, ◌+◌, ◌≤◌, ◌<◌}
use native.Mathlib.Omega.{arith}
use native.Mathlib.Nat.{le_refl}
use mathlib.Core.Path.{◌≡◌, sym, ap, ◌∙◌}
use mathlib.Core.List.{List, [], ◌∷◌, ◌++◌, append_assoc}
use lib.ListN.{length, drop, length-append}
use Rattle.words.specs.Words.{part}
use Rattle.grid.specs.Grid.{Grid}
use Rattle.grid.specs.Entries.{column, value, gather, flatten, grid_columns, grid_values, entry_count}
use Rattle.grid.proofs.Gather.{flatten_length, flatten_grows}
use Rattle.rows.proofs.Lookup.{gather_rising}
use Rattle.matrix.specs.Layout.{
  start_count_at,
  starts_at,
  count_at,
  columns_at,
  count_again_at,
  values_at,
  revision_count,
  revision,
  shape_count,
  rows,
  cols,
  start_count,
  start,
  entries,
  entries_again,
  row_columns,
  row_values,
}
use Rattle.matrix.specs.Facts.{Header, Starts, Matrix}
use Rattle.encoding.specs.Encode.{entries_before, counted, grid_starts, encode_revised, grid_size, Within}
use Rattle.encoding.proofs.Sections.{Section, section_count, section_at, section_part, section_rest}
use Rattle.encoding.proofs.GridSections.{starts_length, values_length, starts_at_lem, row_of_all}

-- A12: "Sizes become R + 2N + 9", whatever the revision
pub encode_length : (v : ℕ) (g : Grid) → length (encode_revised v g) ≡ grid_size g
unfolding encode_revised
encode_length v g = simp length-append (omega (arith, starts_length g, values_length g))

-- what the accessors of a matrix read from the writing and any words t after it
module _ (v : ℕ) (g : Grid) (t : List ℕ) where
  -- the sections, with t after them
  pub encode_sections : encode_revised v g ++ t ≡ counted (v ∷ []) ++ (counted (g.rows ∷ g.cols ∷ [])
      ++ (counted (grid_starts g) ++ (counted (grid_columns g) ++ (counted (grid_values g) ++ t))))
  unfolding encode_revised
  encode_sections = simp append_assoc

  -- where the row starts stand
  starts_section : Section (encode_revised v g ++ t) start_count_at (grid_starts g)
      (counted (grid_columns g) ++ (counted (grid_values g) ++ t))
  starts_section = record { here = ap (drop start_count_at) encode_sections }

  -- where the column numbers stand
  columns_section : Section (encode_revised v g ++ t) (count_at g.rows) (grid_columns g) (counted (grid_values g) ++ t)
  columns_section = record { here = section_rest starts_section (count_at g.rows) (omega (arith, starts_length g)) }

  -- where the values stand
  values_section : Section (encode_revised v g ++ t) (count_again_at g.rows (entry_count g)) (grid_values g) t
  values_section = record { here = section_rest columns_section (count_again_at g.rows (entry_count g)) (omega arith) }

  -- the revision
  pub encode_revision : revision (encode_revised v g ++ t) ≡ v
  encode_revision = ap revision encode_sections

  -- R
  pub encode_rows : rows (encode_revised v g ++ t) ≡ g.rows
  encode_rows = ap rows encode_sections

  -- C
  pub encode_cols : cols (encode_revised v g ++ t) ≡ g.cols
  encode_cols = ap cols encode_sections

  -- "R+1"
  pub encode_start_count : start_count (encode_revised v g ++ t) ≡ g.rows + 1
  encode_start_count = section_count starts_section ∙ starts_length g

  -- the start of row i, and at the end N
  pub encode_start : (i : ℕ) → i ≤ g.rows → start (encode_revised v g ++ t) i ≡ entries_before g i
  encode_start i l =
      section_at starts_section (i + starts_at) i (omega arith) (omega (arith, starts_length g)) ∙ starts_at_lem g i l

  -- N, before the column numbers
  pub encode_entries : entries (encode_revised v g ++ t) ≡ entry_count g
  encode_entries = rw encode_rows (section_count columns_section)

  -- N, before the values
  pub encode_entries_again : entries_again (encode_revised v g ++ t) ≡ entry_count g
  encode_entries_again = rw (encode_entries, encode_rows) (section_count values_section ∙ values_length g)

  -- the columns or the values of row i, in the section that begins at b
  row_part : (emit : ℕ → ℕ → ℕ) (a b : ℕ) (rest : List ℕ)
      → Section (encode_revised v g ++ t) a (flatten emit g.cols g.cell g.rows) rest → a + 1 ≡ b
      → (i : ℕ) → i < g.rows
      → part (b + entries_before g i) (b + entries_before g (i + 1)) (encode_revised v g ++ t) ≡ gather emit g.cols (g.cell i)
  row_part emit a b rest h e i l =
      let up = flatten_grows column g.cols g.cell i (i + 1) (omega arith) in
      let top = flatten_grows column g.cols g.cell (i + 1) g.rows (omega arith) in
      let same = flatten_length emit column g.cols g.cell g.rows in
      section_part h b (entries_before g i) (entries_before g (i + 1)) e up (omega arith) ∙ row_of_all g emit i l

  -- the column numbers of row i
  pub encode_row_columns : (i : ℕ) → i < g.rows → row_columns (encode_revised v g ++ t) i ≡ gather column g.cols (g.cell i)
  encode_row_columns i l =
      rw (encode_rows, encode_start i (omega arith), encode_start (i + 1) (omega arith))
      (row_part column (count_at g.rows) (columns_at g.rows) _ columns_section (omega arith) i l)

  -- the values of row i
  pub encode_row_values : (i : ℕ) → i < g.rows → row_values (encode_revised v g ++ t) i ≡ gather value g.cols (g.cell i)
  encode_row_values i l =
      let n = entry_count g in
      rw (encode_entries, encode_rows, encode_start i (omega arith), encode_start (i + 1) (omega arith))
      (row_part value (count_again_at g.rows n) (values_at g.rows n) _ values_section (omega arith) i l)

  -- the counts of the writing of a grid within the limits are those of a valid matrix
  encode_header : Within g → Header (encode_revised v g ++ t)
  encode_header w =
      let r = encode_rows in
      let n = encode_entries in
      record {
        one = ap revision_count encode_sections;
        two = ap shape_count encode_sections;
        row_range = rw r w.row_range;
        col_range = rw encode_cols w.col_range;
        starts = encode_start_count ∙ omega arith;
        few = omega arith;
        fits = omega (arith, length-append (encode_revised v g) t, encode_length v g);
        again = encode_entries_again ∙ sym n;
      }

  -- and so are the row starts
  encode_starts : Starts (encode_revised v g ++ t)
  unfolding flatten
  encode_starts =
      let r = encode_rows in
      record {
        first = encode_start 0 (omega arith);
        last = rw r (encode_start g.rows (le_refl g.rows)) ∙ sym encode_entries;
        up = λ i l.
            let up = flatten_grows column g.cols g.cell i (i + 1) (omega arith) in
            omega (arith, encode_start i (omega arith), encode_start (i + 1) (omega arith));
      }

  -- and so is all of it
  pub encode_matrix : Within g → Matrix (encode_revised v g ++ t)
  encode_matrix w =
      let r = encode_rows in
      record {
        header = encode_header w;
        starts = encode_starts;
        rising = λ i l. rw (encode_row_columns i (omega arith), encode_cols) (gather_rising g.cols (g.cell i));
      }
