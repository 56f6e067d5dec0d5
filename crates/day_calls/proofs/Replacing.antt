-- What replacing the day's row requires and leaves, for a new row and for none.
use Prim.Native.Nat.{ℕ, ◌+◌, ◌≤◌}
use native.Mathlib.Omega.{arith}
use mathlib.Core.Path.{◌≡◌, refl, sym, ap, ◌∙◌}
use mathlib.Core.List.{List, []}
use lib.ListN.{length}
use Rattle.limits.specs.Limits.{max_entries}
use Rattle.grid.specs.Entries.{column, gather, entry_count}
use Rattle.grid.proofs.Counts.{gather_absent}
use Rattle.rows.specs.Row.{lookup, Row}
use Rattle.matrix.specs.Layout.{cols, start, entries, row_columns, row_values, cell_of, grid_of}
use Rattle.matrix.proofs.Facts.{matrix_made, row_span}
use Rattle.encoding.specs.Encode.{grid_size, updated_to}
use Rattle.encoding.proofs.Canonical.{valid_row}
use Rattle.day_grids.specs.Day.{with_row, no_entries}
use Rattle.row_edits.specs.Replacing.{count_with, Replaceable}
use Rattle.day_marks.specs.Marks.{Vector}
use Rattle.day_requests.specs.Ready.{Backable, Rewritable}
use Rattle.day_calls.specs.Calls.{day_with, day_without}
use Rattle.day_calls.proofs.Counts.{row_counted, vector_row, vector_gathered}

module _ {day marks : List ℕ} {i : ℕ} (b : Backable day marks i) where
  -- the marks have a column for the row
  pub back_vector : Vector marks i
  back_vector = record {
    matrix = b.over.marks_valid;
    one_row = b.over.one_row;
    col = omega (arith, b.over.mark_rows, b.row);
  }

  -- without the row
  pub count_without : count_with (entries day) (start day i) (start day (i + 1)) 0 ≡ entry_count (day_without day i)
  count_without =
      ap (λ (k : ℕ). count_with (entries day) (start day i) (start day (i + 1)) k)
      (sym (ap length (gather_absent column (cols day))))
      ∙ row_counted b.over.day_valid b.row no_entries

  none_row : (n : ℕ) → Row n [] []
  none_row n = record {
    even = refl;
    rises = record { up = λ x y l m. absurd (omega arith) };
    small = λ x l. absurd (omega arith);
  }

  pub without_replaceable : (cs vs : List ℕ) → cs ≡ [] → vs ≡ [] → Replaceable day i cs vs
  without_replaceable cs vs e f =
      let m = b.over.day_valid in
      let x = row_span day m.starts i b.row in
      rw (e, f) (record {
        matrix = m;
        row = b.row;
        new = none_row (cols day);
        few = omega (arith, m.header.few, x.up, x.top);
        space = omega (arith, m.header.fits, x.up, x.top);
      })

  pub without_written : (cs vs t : List ℕ) → cs ≡ [] → vs ≡ []
      → t ≡ updated_to (with_row (grid_of day) i (lookup cs vs)) day → t ≡ updated_to (day_without day i) day
  unfolding lookup
  without_written cs vs t e f h = h ∙ rw (e, f)

module _ {day marks new : List ℕ} {i : ℕ} (r : Rewritable day marks i new) where
  -- with the new row
  pub count_with_lem : count_with (entries day) (start day i) (start day (i + 1)) (entries new)
      ≡ entry_count (day_with day i new)
  count_with_lem =
      let g : length (gather column (cols day) (cell_of new 0)) ≡ entries new =
      ap (λ (n : ℕ). length (gather column n (cell_of new 0))) (sym r.new_cols)
      ∙ vector_gathered r.new_valid r.new_row in
      ap (λ (k : ℕ). count_with (entries day) (start day i) (start day (i + 1)) k) (sym g)
      ∙ row_counted r.back.over.day_valid r.back.row (cell_of new 0)

  pub counted_with : {n k : ℕ} → n ≡ count_with (entries day) (start day i) (start day (i + 1)) k → k ≡ entries new
      → n ≡ entry_count (day_with day i new)
  counted_with h e = h ∙ ap (λ (k : ℕ). count_with (entries day) (start day i) (start day (i + 1)) k) e ∙ count_with_lem

  module _ (cs vs : List ℕ) (e : cs ≡ row_columns new 0) (f : vs ≡ row_values new 0) where
    pub with_replaceable : entry_count (day_with day i new) ≤ max_entries → grid_size (day_with day i new) ≤ length day
        → Replaceable day i cs vs
    with_replaceable few room =
        let k : length cs ≡ entries new = ap length e ∙ vector_row r.new_valid r.new_row in
        let c : count_with (entries day) (start day i) (start day (i + 1)) (length cs) ≡ entry_count (day_with day i new)
        = counted_with refl k in
        let w = valid_row new (matrix_made new r.new_valid) 0 (omega (arith, r.new_row)) in
        record {
          matrix = r.back.over.day_valid;
          row = r.back.row;
          new = rw (e, f, ← r.new_cols) w;
          few = omega (arith, c);
          space = omega (arith, c);
        }

    pub with_written : (t : List ℕ) → t ≡ updated_to (with_row (grid_of day) i (lookup cs vs)) day
        → t ≡ updated_to (day_with day i new) day
    unfolding cell_of
    with_written t h = h ∙ rw (e, f)
