-- The rows of the final C, one after the other: what holds between them, and what is left at the end.
use Prim.Native.Nat.{ℕ, ◌+◌, ◌-◌, ◌≤◌, ◌<◌}
use native.Mathlib.Omega.{arith}
use mathlib.Core.Path.{◌≡◌, refl, sym, ap, ◌∙◌}
use mathlib.Core.List.{List, ◌++◌}
use mathlib.Core.Bool.{Bool}
use lib.ListN.{length, take, drop, replicate, length-append, length-drop, length-take, length-replicate}
use mir.Syntax.{w64}
use mir.Val.{Fits}
use lib.Seq.{length-take-le, take_at, drop_at, take-append-le}
use Rattle.std.specs.Prelude.{Ok, Err}
use Rattle.limits.specs.Limits.{max_cols, max_entries}
use Rattle.answers.specs.declared.Refusal.TheVariants.{TooManyEntries}
use Rattle.grid.specs.Grid.{Grid}
use Rattle.grid.specs.Entries.{column, value, gather, flatten, entry_count}
use Rattle.grid.proofs.Gather.{gather_length, flatten_next, flatten_grows}
use Rattle.rows.specs.Row.{Holds}
use Rattle.rows.proofs.Holds.{holds_most}
use Rattle.matrix.specs.Layout.{max_matrix_words, workspace_words}
use Rattle.matrix.specs.Layout as layout
use Rattle.encoding.specs.Encode.{entries_before, encode, grid_size, written_over}
use Rattle.encoding.proofs.Canonical.{encode_length}
use Rattle.operations.specs.declared.Call.{Call}
use Rattle.operations.specs.Calls.{transpose_first, call_final}
use Rattle.requests.specs.Refusal.{lent_final}
use Rattle.results.specs.Staging.{RowBounds, ResultBounds, staged_row, finished, Staged}
use Rattle.results.proofs.Staged.{staged_none, staged_more}
use Rattle.results.proofs.Finished.{finished_written}
use Rattle.sources.specs.Sources.{second_flag, Sources}
use Rattle.compute.specs.Computing.{Prepared, RowBuffers, Progress, Advanced, Computed}
use Rattle.sources.proofs.Sources.{sources_kept}

-- buffers keep their lengths
pub buffers_kept : {tc tv oc ov : List ℕ} (tc' tv' oc' ov' : List ℕ) → RowBuffers tc tv oc ov → length tc' ≡ length tc
    → length tv' ≡ length tv → length oc' ≡ length oc → length ov' ≡ length ov → RowBuffers tc' tv' oc' ov'
buffers_kept tc' tv' oc' ov' b p q r s = record {
  result_columns = omega (arith, b.result_columns);
  result_values = omega (arith, b.result_values);
  final_columns = omega (arith, b.final_columns);
  final_values = omega (arith, b.final_values);
}

-- a row of the result is a row of old C
pub row_below : {i total r : ℕ} → total ≡ r → i < total → i < r
row_below e l = omega arith

-- the workspace with its first region written
pub result_long : (w region : List ℕ) → length region ≡ length (take max_matrix_words w)
    → length (region ++ drop max_matrix_words w) ≡ length w
result_long w region z =
    let e = length-take max_matrix_words w in simp (length-append, length-drop) (omega arith)

module _ (call : Call) (a b m c is js : List ℕ) where
  -- the final C, whose shape is that of old C
  abbrev g : Grid
  g = lent_final call a b m c is js

  pub final_rows : g.rows ≡ layout.rows c
  unfolding call_final
  final_rows = refl

  pub final_cols : g.cols ≡ layout.cols c
  unfolding call_final
  final_cols = refl

  pub progress_start : (first second : Bool) (w tc tv oc ov : List ℕ) (rows : ℕ) → Prepared call a b m c is js
      → (first ≡ transpose_first call) × (second ≡ second_flag call) → Sources call a b w → rows ≡ layout.rows c
      → workspace_words ≤ length w → RowBuffers tc tv oc ov → Progress call a b m c is js first second w tc tv oc ov rows 0 0
  progress_start first second w tc tv oc ov rows r f s e l b = record {
    ready = r;
    flags = f;
    sources = s;
    rows_are = e;
    within = omega arith;
    few = omega arith;
    space = l;
    staged = staged_none g (take max_matrix_words w);
    buffers = b;
  }

  module _ {first second : Bool} {w tc tv oc ov : List ℕ} {rows n i : ℕ}
      (p : Progress call a b m c is js first second w tc tv oc ov rows n i) where
    pub region_length : length (take max_matrix_words w) ≡ max_matrix_words
    region_length = length-take-le max_matrix_words w (omega (arith, p.space))

    pub region_fits : max_matrix_words ≤ length w
    region_fits = omega (arith, p.space)

    -- row i, left in the buffers
    module _ (l : i < rows) {k : ℕ} {oc' ov' : List ℕ} (h : Holds (layout.cols c) (g.cell i) k oc' ov') where
      columns_are : take k oc' ≡ gather column g.cols (g.cell i)
      columns_are = rw final_cols h.columns

      values_are : take k ov' ≡ gather value g.cols (g.cell i)
      values_are = rw final_cols h.values

      pub columns_length : length (take k oc') ≡ k
      columns_length = ap length h.columns ∙ sym h.count

      pub values_length : length (take k ov') ≡ k
      values_length = ap length h.values ∙ gather_length value column (layout.cols c) (g.cell i) ∙ sym h.count

      entries_next : entries_before g (i + 1) ≡ n + k
      entries_next =
          ap length (flatten_next column g.cols g.cell i)
          ∙ length-append (flatten column g.cols g.cell i) (gather column g.cols (g.cell i))
          ∙ omega (arith, p.staged.count, columns_length, ap length columns_are)

      -- the row lies within its buffers
      pub columns_fit : k ≤ length oc'
      columns_fit = omega (arith, simp length-take at columns_length)

      pub values_fit : k ≤ length ov'
      values_fit = omega (arith, simp length-take at values_length)

      -- and the sum of the entries fits
      pub next_fits : Fits w64 (n + k)
      next_fits =
          let c' = p.ready.inputs.output.header.col_range.most in
          let o = holds_most h in
          let f = p.few in
          record { fits = omega arith }

      -- more entries than a matrix may have
      pub progress_full : max_entries < n + k → max_entries < entry_count g
      progress_full f =
          omega (
            arith,
            entries_next,
            flatten_grows column g.cols g.cell (i + 1) g.rows
                (rw final_rows (omega (arith, p.rows_are))),
          )

      pub row_bounds : n + k ≤ max_entries → RowBounds rows i n (take k oc') (take k ov') (take max_matrix_words w)
      row_bounds f = record {
        rows = omega (arith, p.rows_are, p.ready.inputs.output.header.row_range.most);
        row = l;
        even = values_length ∙ sym columns_length;
        few = omega (arith, columns_length);
        space = omega (arith, region_length);
      }

      -- one more row
      pub progress_more : n + k ≤ max_entries → (tc' tv' region : List ℕ) → RowBuffers tc' tv' oc' ov'
          → region ≡ staged_row rows i n (take k oc') (take k ov') (take max_matrix_words w)
          → length region ≡ length (take max_matrix_words w)
          → Progress call a b m c is js first second (region ++ drop max_matrix_words w) tc' tv' oc' ov' rows (n + k) (i + 1)
      progress_more f tc' tv' region u e z =
          let q : rows ≡ g.rows = p.rows_are ∙ sym final_rows in
          let y : length region ≡ max_matrix_words = z ∙ region_length in
          let t : take max_matrix_words (region ++ drop max_matrix_words w) ≡ region =
          take_at region (drop max_matrix_words w) max_matrix_words y in
          record {
            ready = p.ready;
            flags = p.flags;
            sources = sources_kept call a b w (region ++ drop max_matrix_words w)
                (sym (drop_at region (drop max_matrix_words w) max_matrix_words y)) p.sources;
            rows_are = p.rows_are;
            within = omega arith;
            few = f;
            space = simp (length-append, length-drop) (omega (arith, p.space));
            staged = rw (t, e, q) (rw columns_length at (staged_more g i n (take k oc') (take k ov') (take max_matrix_words w)
                (rw q at (row_bounds f)) p.staged columns_are values_are));
            buffers = u;
          }

    -- all rows are staged
    module _ (l : rows ≤ i) where
      all_rows : i ≡ g.rows
      all_rows = omega (arith, p.within, p.rows_are, final_rows)

      pub result_bounds : ResultBounds rows (layout.cols c) n (take max_matrix_words w)
      result_bounds = record {
        rows = omega (arith, p.rows_are, p.ready.inputs.output.header.row_range.most);
        cols = p.ready.inputs.output.header.col_range.most;
        few = p.few;
        space = omega (arith, region_length);
      }

      pub progress_done : (region : List ℕ) → region ≡ finished rows (layout.cols c) n (take max_matrix_words w)
          → length region ≡ length (take max_matrix_words w) → Computed (Ok n) g (region ++ drop max_matrix_words w)
      progress_done region e z =
          let q : rows ≡ g.rows = p.rows_are ∙ sym final_rows in
          let s : Staged g g.rows n (take max_matrix_words w) = rw all_rows at p.staged in
          let k = result_bounds in
          let o : ResultBounds g.rows g.cols n (take max_matrix_words w) =
          record { rows = omega arith; cols = omega (arith, final_cols); few = k.few; space = k.space } in
          let y : region ≡ finished g.rows g.cols n (take max_matrix_words w) =
          e ∙ ap (λ (x : ℕ). finished x (layout.cols c) n (take max_matrix_words w)) q
          ∙ ap (λ (x : ℕ). finished g.rows x n (take max_matrix_words w)) (sym final_cols) in
          let r : region ≡ written_over g region = rw y (finished_written g n (take max_matrix_words w) o s) in
          let v = encode_length 0 g in
          let d = ap length r ∙ length-append (encode g) (drop (grid_size g) region) in (
            s.count,
            p.few,
            take-append-le (grid_size g) region (drop max_matrix_words w) (omega arith) ∙ ap (take (grid_size g)) r
                ∙ take_at (encode g) (drop (grid_size g) region) (grid_size g) v,
          )

-- fresh buffers
pub buffers_fresh : RowBuffers (replicate max_cols 0) (replicate max_cols 0) (replicate max_cols 0) (replicate max_cols 0)
buffers_fresh =
    let e : length {A = ℕ} (replicate max_cols 0) ≡ max_cols = length-replicate {A = ℕ} max_cols 0 in
    record {
      result_columns = omega arith;
      result_values = omega arith;
      final_columns = omega arith;
      final_values = omega arith;
    }
