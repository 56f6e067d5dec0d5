-- Words in which one row was changed, section by section, are the writing of the grid with that row.
use Prim.Native.Nat.{ℕ, ◌+◌, ◌≤◌, ◌<◌}
use native.Mathlib.Omega.{arith}
use native.Mathlib.Decide.{dec_lt}
use mathlib.Core.Path.{◌≡◌, refl, sym, ap, ◌∙◌}
use mathlib.Core.Bool.{true}
use mathlib.Core.List.{List, ◌++◌}
use lib.ListN.{length, drop, length-drop}
use lib.Seq.{ext_get_or, get_or-drop}
use Rattle.words.specs.Words.{at}
use Rattle.grid.specs.Grid.{Grid}
use Rattle.grid.specs.Entries.{column, value, gather, flatten, entry_count}
use Rattle.grid.proofs.Gather.{gather_length, flatten_length, flatten_same}
use Rattle.rows.specs.Row.{lookup, Row}
use Rattle.rows.proofs.Lookup.{gather_lookup_columns, gather_lookup_values}
use Rattle.matrix.specs.Layout.{
  revision_at,
  starts_at,
  count_at,
  columns_at,
  count_again_at,
  values_at,
  size_of,
  revision,
  rows,
  cols,
  start,
  entries,
  size,
  cell_of,
  grid_of,
}
use Rattle.matrix.specs.Valid.{valid}
use Rattle.matrix.specs.Facts.{Matrix}
use Rattle.matrix.specs.HeaderWords.{touched}
use Rattle.matrix.proofs.Facts.{matrix_made, row_span}
use Rattle.matrix.proofs.Rows.{columns_length}
use Rattle.matrix.proofs.HeaderWords.{header_own, header_recounted}
use Rattle.encoding.specs.Encode.{entries_before, grid_size, encode_revised, written_revised, updated_to}
use Rattle.encoding.proofs.Decoded.{valid_columns, valid_values}
use Rattle.encoding.proofs.Canonical.{encode_touched, valid_before, valid_entries, valid_row_columns}
use Rattle.encoding.proofs.Assembled.{Assembled, assembled}
use Rattle.edits.proofs.Located.{Located, part_located, located_part, located_front, located_back}
use Rattle.edits.proofs.Located.{located_both, located_moved}
use Rattle.day_grids.specs.Day.{with_row}
use Rattle.day_grids.proofs.Rows.{RowAround, row_around, row_around_length, row_other, gather_here}

-- t is s with row i changed to the columns cs and the values vs, so that there are n' entries: section by section
pub record RowChanged (s t : List ℕ) (i n' : ℕ) (cs vs : List ℕ) : Type 0 where
  pub same : length t ≡ length s
  pub fits : size_of (rows s) n' ≤ length s
  pub number : n' + start s (i + 1) ≡ entries s + start s i + length cs
  pub head : (k : ℕ) → k < starts_at → at t k ≡ at s k
  pub starts_low : (k : ℕ) → k ≤ i → start t k ≡ start s k
  pub starts_high : (k : ℕ) → i < k → k ≤ rows s → start t k + start s (i + 1) ≡ start s k + start s i + length cs
  pub count : at t (count_at (rows s)) ≡ n'
  pub columns_low : (k : ℕ) → k < start s i → at t (columns_at (rows s) + k) ≡ at s (columns_at (rows s) + k)
  pub columns_here : Located t (columns_at (rows s) + start s i) cs
  pub columns_high : (k : ℕ) → start s (i + 1) + k < entries s
      → at t (columns_at (rows s) + start s i + length cs + k) ≡ at s (columns_at (rows s) + start s (i + 1) + k)
  pub again : at t (count_again_at (rows s) n') ≡ n'
  pub values_low : (k : ℕ) → k < start s i
      → at t (values_at (rows s) n' + k) ≡ at s (values_at (rows s) (entries s) + k)
  pub values_here : Located t (values_at (rows s) n' + start s i) vs
  pub values_high : (k : ℕ) → start s (i + 1) + k < entries s
      → at t (values_at (rows s) n' + start s i + length cs + k) ≡ at s (values_at (rows s) (entries s) + start s (i + 1) + k)
  pub spare : (k : ℕ) → size_of (rows s) n' ≤ k → at t k ≡ at s k

module _ {s : List ℕ} {i : ℕ} (m : Matrix s) (l : i < rows s) where
  held : valid s ≡ true
  held = matrix_made s m

  -- the entries before the row, its own, and those behind it
  abbrev front : (ℕ → ℕ → ℕ) → List ℕ
  front emit = flatten emit (cols s) (cell_of s) i

  abbrev own : (ℕ → ℕ → ℕ) → List ℕ
  own emit = gather emit (cols s) (cell_of s i)

  split : (emit : ℕ → ℕ → ℕ) (k : ℕ) → i < k → RowAround emit (cols s) (cell_of s) i k
  split emit k d = row_around emit (cols s) (cell_of s) i k d

  front_length : (emit : ℕ → ℕ → ℕ) → length (front emit) ≡ start s i
  front_length emit = flatten_length emit column (cols s) (cell_of s) i ∙ valid_before s held i (omega arith)

  own_length : (emit : ℕ → ℕ → ℕ) → length (own emit) + start s i ≡ start s (i + 1)
  own_length emit =
      omega (
        arith,
        gather_length emit column (cols s) (cell_of s i),
        ap length (valid_row_columns s held i l),
        columns_length s i m.header (row_span s m.starts i l),
      )

  old : (emit : ℕ → ℕ → ℕ) (k : ℕ) (d : i < k)
      → flatten emit (cols s) (cell_of s) k ≡ front emit ++ (own emit ++ (split emit k d).rest)
  old emit k d = (split emit k d).joined (cell_of s) (λ r c f. refl)

  old_length : (emit : ℕ → ℕ → ℕ) (k : ℕ) (d : i < k)
      → length (flatten emit (cols s) (cell_of s) k) ≡ start s (i + 1) + length (split emit k d).rest
  old_length emit k d =
      row_around_length emit (split emit k d) (cell_of s) (λ r c f. refl)
      ∙ omega (arith, front_length emit, own_length emit)

  -- the entries behind the row are the last of the n entries
  rest_length : (emit : ℕ → ℕ → ℕ) → start s (i + 1) + length (split emit (rows s) l).rest ≡ entries s
  rest_length emit =
      sym (old_length emit (rows s) l) ∙ flatten_length emit column (cols s) (cell_of s) (rows s) ∙ valid_entries s held

  -- the sections of columns and values
  old_columns_lem : Located s (columns_at (rows s)) (flatten column (cols s) (cell_of s) (rows s))
  old_columns_lem =
      part_located (columns_at (rows s)) (count_again_at (rows s) (entries s)) s _ (omega arith)
      (omega (arith, m.header.fits)) (valid_columns s held)

  old_values : Located s (values_at (rows s) (entries s)) (flatten value (cols s) (cell_of s) (rows s))
  old_values =
      part_located (values_at (rows s) (entries s)) (size s) s _ (omega arith) m.header.fits (valid_values s held)

  module _ {t cs vs : List ℕ} {n' : ℕ} (w : Row (cols s) cs vs) (h : RowChanged s t i n' cs vs) where
    abbrev g' : Grid
    g' = with_row (grid_of s) i (lookup cs vs)

    -- the new row has as many entries as columns
    fresh_length : (emit : ℕ → ℕ → ℕ) → length (gather emit (cols s) (lookup cs vs)) ≡ length cs
    fresh_length emit =
        gather_length emit column (cols s) (lookup cs vs) ∙ ap length (gather_lookup_columns w)

    new : (emit : ℕ → ℕ → ℕ) (k : ℕ) (d : i < k)
        → flatten emit (cols s) g'.cell k
        ≡ front emit ++ (gather emit (cols s) (lookup cs vs) ++ (split emit k d).rest)
    new emit k d =
        (split emit k d).joined g'.cell (row_other (grid_of s) i (lookup cs vs))
        ∙ ap (λ (x : List ℕ). front emit ++ (x ++ (split emit k d).rest))
        (gather_here emit (cols s) (grid_of s) i (lookup cs vs))

    new_length : (emit : ℕ → ℕ → ℕ) (k : ℕ) (d : i < k)
        → length (flatten emit (cols s) g'.cell k) ≡ start s i + length cs + length (split emit k d).rest
    new_length emit k d =
        row_around_length emit (split emit k d) g'.cell (row_other (grid_of s) i (lookup cs vs))
        ∙ omega (
          arith,
          front_length emit,
          ap length (gather_here emit (cols s) (grid_of s) i (lookup cs vs)),
          fresh_length emit,
        )

    -- n' in all
    count_is : entry_count g' ≡ n'
    count_is = new_length column (rows s) l ∙ omega (arith, rest_length column, h.number)

    -- the row starts
    starts : (k : ℕ) → k ≤ rows s → start t k ≡ entries_before g' k
    starts k e = go (dec_lt i k)
      where
        go : Dec (i < k) → start t k ≡ entries_before g' k
        go (yes d) =
            omega (
              arith,
              h.starts_high k d e,
              valid_before s held k e,
              old_length column k d,
              new_length column k d,
            )
        go (no d) =
            h.starts_low k (omega arith) ∙ sym (valid_before s held k e)
            ∙ sym (ap length (flatten_same column (cols s) g'.cell (cell_of s) k
            (λ r c b f. row_other (grid_of s) i (lookup cs vs) r c (λ u. omega arith))))

    -- a section of columns or values, which is moved from p to q
    section : (emit : ℕ → ℕ → ℕ) (xs : List ℕ) → gather emit (cols s) (lookup cs vs) ≡ xs → (p q : ℕ)
        → Located s p (flatten emit (cols s) (cell_of s) (rows s)) → q + n' ≤ length s
        → ((k : ℕ) → k < start s i → at t (q + k) ≡ at s (p + k))
        → Located t (q + start s i) xs
        → ((k : ℕ) → start s (i + 1) + k < entries s
        → at t (q + start s i + length cs + k) ≡ at s (p + start s (i + 1) + k))
        → Located t q (flatten emit (cols s) g'.cell (rows s))
    section emit xs x p q z room low here high =
        let b = (split emit (rows s) l).rest in
        let f = front_length emit in
        let o = own_length emit in
        let n = rest_length emit in
        let o' : length xs ≡ length cs = sym (ap length x) ∙ fresh_length emit in
        let y : Located s p (front emit ++ (own emit ++ b)) = rw (← (old emit (rows s) l)) z in
        let u = located_back (front emit) (own emit ++ b) (p + start s i) (omega arith) y in
        let r = located_back (own emit) b (p + start s (i + 1)) (omega arith) u in
        rw (new emit (rows s) l, x)
        (located_both (front emit) (xs ++ b) (q + start s i) (omega arith)
        (located_moved q (located_front (front emit) (own emit ++ b) y) (omega (arith, h.same, h.number))
        (λ k d. low k (omega arith)))
        (located_both xs b (q + start s i + length cs) (omega arith) here
        (located_moved (q + start s i + length cs) r (omega (arith, h.same, h.number)) (λ k d. high k (omega arith)))))

    new_columns : Located t (columns_at (rows s)) (flatten column (cols s) g'.cell (rows s))
    new_columns =
        section column cs (gather_lookup_columns w) (columns_at (rows s)) (columns_at (rows s)) old_columns_lem
        (omega (arith, h.fits)) h.columns_low h.columns_here h.columns_high

    new_values : Located t (values_at (rows s) n') (flatten value (cols s) g'.cell (rows s))
    new_values =
        section value vs (gather_lookup_values w) (values_at (rows s) (entries s)) (values_at (rows s) n') old_values
        (omega (arith, h.fits)) h.values_low h.values_here h.values_high

    -- every word of the writing of the changed grid
    changed_assembled : Assembled g' t
    changed_assembled =
        let n = count_is in
        record {
          sections = record {
            fits = omega (arith, h.fits, h.same);
            starts = starts;
            columns = located_part new_columns (count_again_at (rows s) (entry_count g')) (omega arith);
            values =
                located_part (rw n new_values) (grid_size g')
                (omega (arith, flatten_length value column (cols s) g'.cell (rows s)));
          };
          header = rw n (header_recounted (header_own m.header) h.head h.count h.again);
        }

    -- the spare words are as they were
    spare_kept : drop (grid_size g') t ≡ drop (grid_size g') s
    spare_kept =
        let e = grid_size g' in
        ext_get_or 0 (drop e t) (drop e s) (omega (arith, length-drop e t, length-drop e s, h.same))
        (λ k d. get_or-drop e t k 0 ∙ h.spare (e + k) (omega (arith, count_is)) ∙ sym (get_or-drop e s k 0))

    -- so the words are that writing, with the revision as it was, and then the spare words; and with the next revision
    -- they are what the call leaves
    pub row_changed : touched t ≡ updated_to g' s
    row_changed =
        let v = revision s in
        let kept : t ≡ written_revised v g' s =
        assembled g' t changed_assembled
        ∙ ap (λ (u : ℕ). written_revised u g' t) (h.head revision_at (omega arith))
        ∙ ap (λ (x : List ℕ). encode_revised v g' ++ x) spare_kept in
        ap touched kept ∙ encode_touched v g' (drop (grid_size g') s)
