-- The buffer of a transpose: the parts that are lent have the length that is asked for, and with the words of all of
-- them and the header the writing of the transposed grid stands there.
use Prim.Native.Nat.{ℕ, ◌+◌, ◌-◌, ◌≤◌}
use native.Mathlib.Omega.{arith}
use native.Mathlib.Nat.{add_comm}
use mathlib.Core.Path.{◌≡◌, sym, ap, ◌∙◌}
use mathlib.Core.List.{List, ◌++◌, append_assoc}
use lib.ListN.{length, take, drop}
use lib.Seq.{drop-drop, ext_get_or}
use borrow.Rule.Slice.PartMut.{put_mid, same_len_mid, Post-is, drop_put}
use Rattle.words.specs.Words.{at, part, overwrite}
use Rattle.words.proofs.Parts.{length_part, part_at}
use Rattle.words.proofs.Overwrite.{overwrite_length, overwrite_before, overwrite_at}
use Rattle.grid.specs.Grid.{Grid}
use Rattle.grid.specs.Entries.{entry_count}
use Rattle.matrix.specs.Layout.{
  starts_at,
  count_at,
  columns_at,
  count_again_at,
  values_at,
  size_of,
  max_matrix_words,
  rows,
  cols,
  start,
  entries,
  grid_of,
}
use Rattle.matrix.specs.Facts.{Matrix}
use Rattle.matrix.specs.HeaderWords.{headed, HeaderBounds}
use Rattle.matrix.proofs.Facts.{matrix_made}
use Rattle.encoding.specs.Encode.{entries_before, grid_starts, encode, grid_size, written_over}
use Rattle.encoding.proofs.GridSections.{starts_length, starts_at_lem}
use Rattle.encoding.proofs.Canonical.{valid_within}
use Rattle.encoding.proofs.Assembled.{InPlace, headed_written}
use Rattle.operations.specs.GridOperations.{transposed}
use Rattle.transpose.specs.Placed.{EntrySections}
use Rattle.transpose.proofs.Transposed.{transposed_entries, transposed_within, transposed_fits}

-- the words w with row starts for r rows in their place, and then with the words of the sections of n entries
abbrev pub started : ℕ → List ℕ → List ℕ → List ℕ
started r w starts = put_mid starts_at (count_at r - starts_at) w starts

abbrev pub entered : ℕ → ℕ → List ℕ → List ℕ → List ℕ → List ℕ
entered r n w starts sections = put_mid (count_at r) (size_of r n - count_at r) (started r w starts) sections

module _ (r : ℕ) (w : List ℕ) where
  -- the part that is lent for the row starts
  pub starts_room : count_at r ≤ length w → length (part starts_at (count_at r) w) ≡ r + 1
  starts_room l = length_part starts_at (count_at r) w l ∙ omega arith

  module _ (starts : List ℕ) (e : length starts ≡ length (part starts_at (count_at r) w)) where
    -- the row starts do not change the length
    pub started_length : length (started r w starts) ≡ length w
    started_length = same_len_mid starts_at (count_at r - starts_at) w starts e

    -- the part that is lent for the other sections
    pub sections_room : (n : ℕ) → size_of r n ≤ length w
        → length (part (count_at r) (size_of r n) (started r w starts)) ≡ n + n + 2
    sections_room n l =
        length_part (count_at r) (size_of r n) (started r w starts) (omega (arith, started_length)) ∙ omega arith

-- a part that is put back is written over
put_overwrite : (a e : ℕ) (s x : List ℕ) → a ≤ e → length x ≡ e - a → put_mid a (e - a) s x ≡ overwrite a x s
unfolding overwrite
put_overwrite a e s x h l =
    let q : a + length x ≡ e = omega arith in
    rw (Post-is a e s h, q) (sym (append_assoc (take a s) x (drop e s)))

-- a part of the words that were written over
overwrite_within : (a : ℕ) (x s : List ℕ) → a + length x ≤ length s → (b c i e : ℕ) → b ≡ a + i → c ≡ a + e
    → e ≤ length x → part b c (overwrite a x s) ≡ part i e x
overwrite_within a x s h b c i e p q l =
    let k = overwrite_length a x s h in
    let m = length_part b c (overwrite a x s) (omega arith) in
    let o = length_part i e x l in
    ext_get_or 0 (part b c (overwrite a x s)) (part i e x) (omega arith)
    (λ j u. part_at b c j (overwrite a x s) (omega arith) ∙ ap (at (overwrite a x s)) (omega arith)
    ∙ overwrite_at a x s h (i + j) (omega arith) ∙ sym (part_at i e j x (omega arith)))

-- the row starts and the sections of a grid, put into the buffer
module _ (g : Grid) (w starts sections : List ℕ) (fits : grid_size g ≤ length w) (e : starts ≡ grid_starts g)
    (long : length sections ≡ entry_count g + entry_count g + 2) (f : EntrySections g sections) where
  abbrev r : ℕ
  r = g.rows

  abbrev n : ℕ
  n = entry_count g

  abbrev u : List ℕ
  u = overwrite starts_at starts w

  abbrev v : List ℕ
  v = overwrite (count_at r) sections u

  starts_long : length starts ≡ r + 1
  starts_long = ap length e ∙ starts_length g

  starts_fit : starts_at + length starts ≤ length w
  starts_fit = omega (arith, starts_long)

  started_long : length u ≡ length w
  started_long = overwrite_length starts_at starts w starts_fit

  sections_fit : count_at r + length sections ≤ length u
  sections_fit = omega (arith, started_long)

  -- one after the other they are written over
  started_is : started r w starts ≡ u
  started_is = put_overwrite starts_at (count_at r) w starts (omega arith) (omega (arith, starts_long))

  entered_is : entered r n w starts sections ≡ v
  entered_is =
      put_overwrite (count_at r) (size_of r n) (started r w starts) sections (omega arith) (omega arith)
      ∙ ap (overwrite (count_at r) sections) started_is

  -- each stands in its place
  start_there : (i : ℕ) → i ≤ r → start v i ≡ entries_before g i
  start_there i l =
      overwrite_before (count_at r) sections u sections_fit (i + starts_at) (omega arith)
      ∙ ap (at u) (add_comm i starts_at) ∙ overwrite_at starts_at starts w starts_fit i (omega (arith, starts_long))
      ∙ ap (λ (l : List ℕ). at l i) e ∙ starts_at_lem g i l

  entered_in_place : InPlace g v
  entered_in_place = record {
    fits = omega (arith, overwrite_length (count_at r) sections u sections_fit, started_long);
    starts = start_there;
    columns =
        overwrite_within (count_at r) sections u sections_fit (columns_at r) (count_again_at r n) 1 (1 + n)
        (omega arith)
        (omega arith) (omega arith)
        ∙ f.columns;
    values =
        overwrite_within (count_at r) sections u sections_fit (values_at r n) (grid_size g) (n + 2) (n + 2 + n)
        (omega arith) (omega arith) (omega arith)
        ∙ f.values;
  }

  -- what lies behind them is as it was
  behind : drop (grid_size g) (entered r n w starts sections) ≡ drop (grid_size g) w
  behind =
      let d = grid_size g - count_at r in
      let q : count_at r + d ≡ grid_size g = omega arith in
      drop_put (count_at r) (grid_size g) (started r w starts) sections (omega arith)
      (omega (arith, started_length r w starts (starts_long ∙ sym (starts_room r w (omega arith))))) (omega arith)
      ∙ sym (ap (λ (x : ℕ). drop x (started r w starts)) q) ∙ sym (drop-drop d (count_at r) (started r w starts))
      ∙ ap (drop d) (drop_put starts_at (count_at r) w starts (omega arith) (omega arith) (omega (arith, starts_long)))
      ∙ drop-drop d (count_at r) w ∙ ap (λ (x : ℕ). drop x w) q

  -- with the header they are the writing of the grid
  entered_written : headed r g.cols n (entered r n w starts sections) ≡ written_over g w
  entered_written =
      headed_written (rw entered_is entered_in_place) ∙ ap (λ (l : List ℕ). encode g ++ l) behind

-- for a matrix of n entries
module _ {a : List ℕ} {n : ℕ} (m : Matrix a) (e : n ≡ entries a) (w : List ℕ) (long : max_matrix_words ≤ length w) where
  -- there is room for the transposed matrix
  pub size_fits : size_of (cols a) n ≤ length w
  size_fits = omega (arith, transposed_fits m, transposed_entries m)

  -- and for its header
  pub header_room : {s : List ℕ} → length s ≡ length w → HeaderBounds (cols a) n s
  header_room l = record {
    rows = (transposed_within (valid_within a (matrix_made a m))).row_range.most;
    fits = omega (arith, size_fits);
  }

  -- and with its parts and its header it is written
  pub transposed_written : {starts sections : List ℕ} → starts ≡ grid_starts (transposed (grid_of a))
      → length sections ≡ n + n + 2 → EntrySections (transposed (grid_of a)) sections
      → headed (cols a) (rows a) n (entered (cols a) n w starts sections) ≡ written_over (transposed (grid_of a)) w
  transposed_written {starts} {sections} p l q =
      let k = e ∙ transposed_entries m in
      let fits : grid_size (transposed (grid_of a)) ≤ length w = rw (← k) size_fits in
      rw k (entered_written (transposed (grid_of a)) w starts sections fits p (omega arith) q)
