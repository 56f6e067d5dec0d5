-- The entries of the folded grid, row by row.
use Prim.Native.Nat.{ℕ, zero, suc, ◌+◌, ◌*◌, ◌≤◌, ◌<◌}
use native.Mathlib.Nat.{zero-add}
use native.Mathlib.Numerals.{add-one}
use native.Mathlib.Omega.{arith}
use mathlib.Core.Path.{◌≡◌, refl, sym, ap, subst, ◌∙◌}
use mathlib.Core.List.{List}
use lib.ListN.{length, take, length-append}
use lib.Seq.{take_all}
use Rattle.std.specs.List.{sum_by, range_with_len}
use Rattle.std.proofs.lemmas.List.Sums.{sum_by_more}
use Rattle.std.proofs.lemmas.List.FromFn.{length-range_with_len, get_or-range_with_len}
use Rattle.limits.specs.Limits.{max_cols, max_entries}
use Rattle.grid.specs.Cell.{Cell}
use Rattle.grid.specs.Grid.{Grid}
use Rattle.grid.specs.Entries.{column, gather, flatten, entry_count}
use Rattle.grid.proofs.Gather.{flatten_next, flatten_grows}
use Rattle.matrix.specs.Layout.{rows, cols, row_columns, row_values, max_matrix_words}
use Rattle.matrix.proofs.Rows.{row_even}
use Rattle.encoding.specs.Encode.{entries_before}
use Rattle.results.specs.Staging.{RowBounds, staged_row, Staged}
use Rattle.results.proofs.Staged.{staged_more}
use Rattle.day_marks.specs.Marks.{shown_words}
use Rattle.day_requests.specs.Ready.{Pair}
use Rattle.day_folds.specs.Folding.{lent_fold}
use Rattle.day_folds.proofs.Shown.{shown_matrix, shown_span, shown_columns, shown_values, shown_few}

-- none before the first row
pub before_none : (n : ℕ) (cell : ℕ → ℕ → Cell) → 0 ≡ length (flatten column n cell 0)
unfolding flatten
before_none n cell = refl

-- all of them, behind the last row
pub staged_all : (g : Grid) {i n : ℕ} {w : List ℕ} → Staged g i n w → i ≡ g.rows → Staged g g.rows (entry_count g) w
staged_all g {i} {n} {w} s e =
    subst (λ (x : ℕ). Staged g x (entries_before g x) w) e (subst (λ (x : ℕ). Staged g i x w) s.count s)

module _ {base day marks : List ℕ} (p : Pair base day marks) (i : ℕ) (l : i < rows base) where
  -- a row more
  pub before_more : (n : ℕ) → n ≡ entries_before (lent_fold base day marks) i
      → n + length (row_columns (shown_words base day marks i) i) ≡ entries_before (lent_fold base day marks) (i + 1)
  before_more n e =
      let g = lent_fold base day marks in
      let f = ap length (flatten_next column (cols base) g.cell i)
      ∙ length-append (flatten column (cols base) g.cell i) (gather column (cols base) (g.cell i)) in
      omega (arith, ap length (shown_columns p i l))

  -- one that is taken from the matrix shown can be staged
  module _ (cs vs w : List ℕ) (n : ℕ) (few : entry_count (lent_fold base day marks) ≤ max_entries)
      (room : max_matrix_words ≤ length w) (s : Staged (lent_fold base day marks) i n w)
      (c : cs ≡ row_columns (shown_words base day marks i) i) where
    pub row_bounds : vs ≡ row_values (shown_words base day marks i) i → RowBounds (rows base) i n cs vs w
    row_bounds v =
        let g = lent_fold base day marks in
        let h = (shown_matrix p i).header in
        let k = before_more n s.count in
        let u = flatten_grows column (cols base) g.cell (i + 1) (rows base) (omega arith) in
        record {
          rows = p.base_valid.header.row_range.most;
          row = l;
          even = ap length v ∙ row_even _ i h (shown_span p i l) ∙ sym (ap length c);
          few = omega (arith, ap length c);
          space = room;
        }

    -- and is
    pub row_staged : (v : vs ≡ row_values (shown_words base day marks i) i)
        → Staged (lent_fold base day marks) (i + 1) (n + length cs) (staged_row (rows base) i n cs vs w)
    row_staged v =
        staged_more (lent_fold base day marks) i n cs vs w (row_bounds v) s (c ∙ shown_columns p i l)
        (v ∙ shown_values p i l)

-- how many entries the shown row i has
unfoldable pub row_entries : List ℕ → List ℕ → List ℕ → ℕ → ℕ
row_entries base day marks i = length (row_columns (shown_words base day marks i) i)

-- the first n rows, added up
module _ {base day marks : List ℕ} (p : Pair base day marks) where
  rows_before : (n : ℕ) → n ≤ rows base
      → sum_by (row_entries base day marks) (take n (range_with_len 0 (rows base)))
      ≡ entries_before (lent_fold base day marks) n
  unfolding row_entries
  rows_before zero l = before_none _ _
  rows_before (suc n) l =
      let r = range_with_len 0 (rows base) in
      let s = sum_by_more (row_entries base day marks) r n 0 (omega (arith, length-range_with_len 0 (rows base))) in
      let g = get_or-range_with_len 0 (rows base) n 0 (omega arith) in
      let m = before_more p n (omega arith) _ (rows_before n (omega arith)) in
      rw (← (add-one n)) (s ∙ rw (g, zero-add n) m)

  rows_few : (n : ℕ) → n ≤ rows base
      → sum_by (row_entries base day marks) (take n (range_with_len 0 (rows base))) ≤ n * max_cols
  unfolding row_entries
  rows_few zero l = omega arith
  rows_few (suc n) l =
      let r = range_with_len 0 (rows base) in
      let s = sum_by_more (row_entries base day marks) r n 0 (omega (arith, length-range_with_len 0 (rows base))) in
      let g = get_or-range_with_len 0 (rows base) n 0 (omega arith) in
      let e = ap (row_entries base day marks) (g ∙ zero-add n) in
      let f = shown_few p n (omega arith) in
      rw (← (add-one n)) (omega (arith, s, e, f, rows_few n (omega arith)))

  all_rows : take (rows base) (range_with_len 0 (rows base)) ≡ range_with_len 0 (rows base)
  all_rows = take_all (rows base) _ (omega (arith, length-range_with_len 0 (rows base)))

  pub rows_sum : sum_by (row_entries base day marks) (range_with_len 0 (rows base))
      ≡ entry_count (lent_fold base day marks)
  rows_sum = rw all_rows at (rows_before (rows base) (omega arith))

  pub rows_most : sum_by (row_entries base day marks) (range_with_len 0 (rows base)) ≤ rows base * max_cols
  rows_most = rw all_rows at (rows_few (rows base) (omega arith))
