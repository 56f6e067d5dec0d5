-- Words in which one cell was changed, section by section, are the writing of the grid with that cell. Cited by every
-- function that changes an entry in place.
use Prim.Native.Nat.{ℕ, ◌+◌, ◌≤◌, ◌<◌}
use native.Mathlib.Omega.{arith}
use native.Mathlib.Decide.{dec_lt}
use mathlib.Core.Path.{◌≡◌, refl, sym, ap, ◌∙◌}
use mathlib.Core.List.{List, ◌++◌}
use lib.ListN.{length, drop, length-append, length-drop}
use lib.Seq.{ext_get_or, get_or-drop}
use Rattle.words.specs.Words.{at}
use Rattle.grid.specs.Cell.{Cell}
use Rattle.grid.specs.Grid.{Grid}
use Rattle.grid.specs.Entries.{column, value, one, gather, flatten, entry_count}
use Rattle.grid.specs.Position.{entry_position}
use Rattle.grid.specs.Update.{with_cell}
use Rattle.grid.proofs.Gather.{gather_length, flatten_length, flatten_same}
use Rattle.matrix.specs.Layout.{
  revision_at,
  starts_at,
  count_at,
  columns_at,
  count_again_at,
  values_at,
  size_of,
  revision,
  rows,
  cols,
  start,
  entries,
  size,
  cell_of,
  grid_of,
}
use Rattle.matrix.specs.HeaderWords.{touched}
use Rattle.matrix.proofs.HeaderWords.{header_own, header_recounted}
use Rattle.encoding.specs.Encode.{entries_before, grid_size, encode_revised, written_revised}
use Rattle.encoding.proofs.Decoded.{valid_columns, valid_values}
use Rattle.encoding.proofs.Canonical.{encode_touched, valid_before, valid_entries}
use Rattle.encoding.proofs.Assembled.{Assembled, assembled}
use Rattle.edits.specs.Changes.{InMatrix, updated}
use Rattle.edits.proofs.Around.{
  cell_count,
  one_length,
  Around,
  around,
  around_length,
  changed_here,
  changed_other,
}
use Rattle.edits.proofs.Located.{Located, part_located, located_part, located_front, located_back}
use Rattle.edits.proofs.Located.{located_both, located_moved}
use Rattle.edits.proofs.Place.{in_valid}

-- t is s with the cell at row i and column j, which is c and whose entry is or would be at p, changed to x, so that there
-- are n' entries: section by section, where word k of t was word m of s
pub record Changed (s t : List ℕ) (i j p n' : ℕ) (c x : Cell) : Type 0 where
  pub same : length t ≡ length s
  pub fits : size_of (rows s) n' ≤ length s
  pub number : n' + cell_count c ≡ entries s + cell_count x
  pub head : (k : ℕ) → k < starts_at → at t k ≡ at s k
  pub starts_low : (k : ℕ) → k ≤ i → start t k ≡ start s k
  pub starts_high : (k : ℕ) → i < k → k ≤ rows s → start t k + cell_count c ≡ start s k + cell_count x
  pub count : at t (count_at (rows s)) ≡ n'
  pub columns_low : (k : ℕ) → columns_at (rows s) ≤ k → k < columns_at (rows s) + p → at t k ≡ at s k
  pub column_here : Located t (columns_at (rows s) + p) (one column j x)
  pub columns_high : (k m : ℕ) → k + cell_count c ≡ m + cell_count x → columns_at (rows s) + p + cell_count c ≤ m
      → m < columns_at (rows s) + entries s → at t k ≡ at s m
  pub again : at t (count_again_at (rows s) n') ≡ n'
  pub values_low : (k m : ℕ) → k + cell_count c ≡ m + cell_count x → values_at (rows s) (entries s) ≤ m
      → m < values_at (rows s) (entries s) + p → at t k ≡ at s m
  pub value_here : Located t (values_at (rows s) n' + p) (one value j x)
  pub values_high : (k m : ℕ) → k + cell_count c + cell_count c ≡ m + cell_count x + cell_count x
      → values_at (rows s) (entries s) + p + cell_count c ≤ m → m < size s → at t k ≡ at s m
  pub spare : (k : ℕ) → size_of (rows s) n' ≤ k → at t k ≡ at s k

module _ {s : List ℕ} {i j p : ℕ} {c : Cell} (m : InMatrix s i j) (e : cell_of s i j ≡ c)
    (q : p ≡ entry_position (grid_of s) i j) where
  -- the entries before and after the cell
  abbrev front : (ℕ → ℕ → ℕ) → List ℕ
  front emit = flatten emit (cols s) (cell_of s) i ++ gather emit j (cell_of s i)

  split : (emit : ℕ → ℕ → ℕ) (k : ℕ) → i < k → Around emit (cols s) (cell_of s) i j k
  split emit k l = around emit (cols s) (cell_of s) i j k l m.col

  -- p of them come before
  front_sum : (emit : ℕ → ℕ → ℕ)
      → length (flatten emit (cols s) (cell_of s) i) + length (gather emit j (cell_of s i)) ≡ p
  front_sum emit =
      omega (arith, flatten_length emit column (cols s) (cell_of s) i, gather_length emit column j (cell_of s i))

  front_length : (emit : ℕ → ℕ → ℕ) → length (front emit) ≡ p
  front_length emit =
      length-append (flatten emit (cols s) (cell_of s) i) (gather emit j (cell_of s i)) ∙ front_sum emit

  -- the entries of the first k rows
  old : (emit : ℕ → ℕ → ℕ) (k : ℕ) (l : i < k)
      → flatten emit (cols s) (cell_of s) k ≡ front emit ++ (one emit j c ++ (split emit k l).rest)
  old emit k l =
      (split emit k l).joined (cell_of s) (λ r a f. refl)
      ∙ ap (λ (y : Cell). front emit ++ (one emit j y ++ (split emit k l).rest)) e

  -- how many there are
  old_length : (emit : ℕ → ℕ → ℕ) (k : ℕ) (l : i < k)
      → length (flatten emit (cols s) (cell_of s) k) ≡ p + cell_count c + length (split emit k l).rest
  old_length emit k l =
      let f = front_sum emit in
      around_length emit (split emit k l) (cell_of s) (λ r a d. refl) ∙ omega (arith, ap cell_count e)

  -- the entries behind the cell are the last of the n entries
  rest_length : (emit : ℕ → ℕ → ℕ) → p + cell_count c + length (split emit (rows s) m.row).rest ≡ entries s
  rest_length emit =
      sym (old_length emit (rows s) m.row) ∙ flatten_length emit column (cols s) (cell_of s) (rows s)
      ∙ valid_entries s (in_valid m)

  -- the sections of columns and values
  old_columns_lem : Located s (columns_at (rows s)) (flatten column (cols s) (cell_of s) (rows s))
  old_columns_lem =
      part_located (columns_at (rows s)) (count_again_at (rows s) (entries s)) s _ (omega arith)
      (omega (arith, m.matrix.header.fits)) (valid_columns s (in_valid m))

  old_values : Located s (values_at (rows s) (entries s)) (flatten value (cols s) (cell_of s) (rows s))
  old_values =
      part_located (values_at (rows s) (entries s)) (size s) s _ (omega arith) m.matrix.header.fits
      (valid_values s (in_valid m))

  -- the column of the cell's own entry
  pub own_column : Located s (columns_at (rows s) + p) (one column j c)
  own_column =
      let b = (split column (rows s) m.row).rest in
      let f = front_length column in
      let z : Located s (columns_at (rows s)) (front column ++ (one column j c ++ b)) =
      rw (← (old column (rows s) m.row)) old_columns_lem in
      located_front (one column j c) b
      (located_back (front column) (one column j c ++ b) (columns_at (rows s) + p) (omega arith) z)

  module _ {t : List ℕ} {n' : ℕ} {x : Cell} (h : Changed s t i j p n' c x) where
    -- the grid with the cell changed: its entries, and how many there are
    abbrev g' : Grid
    g' = with_cell (grid_of s) i j x

    new : (emit : ℕ → ℕ → ℕ) (k : ℕ) (l : i < k)
        → flatten emit (cols s) g'.cell k ≡ front emit ++ (one emit j x ++ (split emit k l).rest)
    new emit k l =
        (split emit k l).joined g'.cell (changed_other (grid_of s) i j x) ∙ rw (changed_here (grid_of s) i j x)

    new_length : (emit : ℕ → ℕ → ℕ) (k : ℕ) (l : i < k)
        → length (flatten emit (cols s) g'.cell k) ≡ p + cell_count x + length (split emit k l).rest
    new_length emit k l =
        let f = front_sum emit in
        around_length emit (split emit k l) g'.cell (changed_other (grid_of s) i j x)
        ∙ omega (arith, ap cell_count (changed_here (grid_of s) i j x))

    -- n' in all
    count_is : entry_count g' ≡ n'
    count_is = new_length column (rows s) m.row ∙ omega (arith, rest_length column, h.number)

    -- the row starts
    starts : (k : ℕ) → k ≤ rows s → start t k ≡ entries_before g' k
    starts k l = go (dec_lt i k)
      where
        go : Dec (i < k) → start t k ≡ entries_before g' k
        go (yes d) =
            omega (
              arith,
              h.starts_high k d l,
              valid_before s (in_valid m) k l,
              old_length column k d,
              new_length column k d,
            )
        go (no d) =
            h.starts_low k (omega arith) ∙ sym (valid_before s (in_valid m) k l)
            ∙ sym (ap length (flatten_same column (cols s) g'.cell (cell_of s) k
            (λ r a b f. changed_other (grid_of s) i j x r a (λ u v. omega arith))))

    -- a section of columns or values, which is moved from a to a'
    section : (emit : ℕ → ℕ → ℕ) (a a' : ℕ) → Located s a (flatten emit (cols s) (cell_of s) (rows s))
        → a' + n' ≤ length s
        → ((k : ℕ) → k < p → at t (a' + k) ≡ at s (a + k))
        → Located t (a' + p) (one emit j x)
        → ((k : ℕ) → p + cell_count c + k < entries s
        → at t (a' + p + cell_count x + k) ≡ at s (a + p + cell_count c + k))
        → Located t a' (flatten emit (cols s) g'.cell (rows s))
    section emit a a' w room low here high =
        let b = (split emit (rows s) m.row).rest in
        let f = front_length emit in
        let n = rest_length emit in
        let o = one_length emit j c in
        let o' = one_length emit j x in
        let z : Located s a (front emit ++ (one emit j c ++ b)) = rw (← (old emit (rows s) m.row)) w in
        let y = located_back (front emit) (one emit j c ++ b) (a + p) (omega arith) z in
        let r = located_back (one emit j c) b (a + p + cell_count c) (omega arith) y in
        rw (new emit (rows s) m.row)
        (located_both (front emit) (one emit j x ++ b) (a' + p) (omega arith)
        (located_moved a' (located_front (front emit) (one emit j c ++ b) z) (omega (arith, h.same, h.number))
        (λ k l. low k (omega arith)))
        (located_both (one emit j x) b (a' + p + cell_count x) (omega arith) here
        (located_moved (a' + p + cell_count x) r (omega (arith, h.same, h.number)) (λ k l. high k (omega arith)))))

    -- the sections of columns and values
    new_columns : Located t (columns_at (rows s)) (flatten column (cols s) g'.cell (rows s))
    new_columns =
        section column (columns_at (rows s)) (columns_at (rows s)) old_columns_lem (omega (arith, h.fits))
        (λ k l. h.columns_low (columns_at (rows s) + k) (omega arith) (omega arith))
        h.column_here
        (λ k l. h.columns_high (columns_at (rows s) + p + cell_count x + k) (columns_at (rows s) + p + cell_count c + k)
        (omega arith) (omega arith) (omega arith))

    new_values : Located t (values_at (rows s) n') (flatten value (cols s) g'.cell (rows s))
    new_values =
        let a = values_at (rows s) (entries s) in
        let a' = values_at (rows s) n' in
        section value a a' old_values (omega (arith, h.fits))
        (λ k l. h.values_low (a' + k) (a + k) (omega (arith, h.number)) (omega arith) (omega arith))
        h.value_here
        (λ k l. h.values_high (a' + p + cell_count x + k) (a + p + cell_count c + k)
        (omega (arith, h.number)) (omega arith) (omega arith))

    -- every word of the writing of the changed grid
    changed_assembled : Assembled g' t
    changed_assembled =
        let n = count_is in
        record {
          sections = record {
            fits = omega (arith, h.fits, h.same);
            starts = starts;
            columns = located_part new_columns (count_again_at (rows s) (entry_count g')) (omega arith);
            values =
                located_part (rw n new_values) (grid_size g')
                (omega (arith, flatten_length value column (cols s) g'.cell (rows s)));
          };
          header = rw n (header_recounted (header_own m.matrix.header) h.head h.count h.again);
        }

    -- the spare words are as they were
    spare_kept : drop (grid_size g') t ≡ drop (grid_size g') s
    spare_kept =
        let a = grid_size g' in
        ext_get_or 0 (drop a t) (drop a s) (omega (arith, length-drop a t, length-drop a s, h.same))
        (λ k l. get_or-drop a t k 0 ∙ h.spare (a + k) (omega (arith, count_is)) ∙ sym (get_or-drop a s k 0))

    -- so the words are that writing, with the revision as it was, and then the spare words; and with the next revision
    -- they are what the edits leave
    pub changed_written : touched t ≡ updated s i j x
    changed_written =
        let v = revision s in
        let kept : t ≡ written_revised v g' s =
        assembled g' t changed_assembled
        ∙ ap (λ (u : ℕ). written_revised u g' t) (h.head revision_at (omega arith))
        ∙ ap (λ (l : List ℕ). encode_revised v g' ++ l) spare_kept in
        ap touched kept ∙ encode_touched v g' (drop (grid_size g') s)
