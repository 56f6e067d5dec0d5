-- Words that were put together section by section are the writing of a grid. Cited by what writes a matrix: it needs no
-- word of the header, which is written by `matrix::write_header`.
use Prim.Native.Nat.{ℕ, ◌≤◌}
use native.Mathlib.Omega.{arith}
use native.Mathlib.Nat.{add_comm}
use mathlib.Core.Path.{◌≡◌, refl, sym, ap, ◌∙◌}
use mathlib.Core.List.{List, [], ◌∷◌, ◌++◌}
use lib.ListN.{length, drop}
use Rattle.words.specs.Words.{part}
use Rattle.words.proofs.Parts.{length_part, part_cons, part_at}
use Rattle.grid.specs.Grid.{Grid}
use Rattle.grid.specs.Entries.{grid_columns, grid_values, entry_count}
use Rattle.matrix.specs.Layout.{
  revision_count_at,
  revision_at,
  shape_count_at,
  rows_at,
  cols_at,
  start_count_at,
  starts_at,
  count_at,
  columns_at,
  count_again_at,
  values_at,
  revision,
  rows,
  cols,
  start,
}
use Rattle.matrix.specs.HeaderWords.{headed, HeaderOf}
use Rattle.matrix.proofs.HeaderWords.{
  headed_length,
  headed_start,
  headed_columns,
  headed_values,
  headed_spare,
  headed_revision,
  headed_words,
}
use Rattle.encoding.specs.Encode.{entries_before, grid_starts, encode, grid_size, written_revised, written_over}
use Rattle.encoding.proofs.Sections.{section_made}
use Rattle.encoding.proofs.GridSections.{starts_are}
use Rattle.encoding.proofs.Encoded.{encode_sections}

-- the row starts, the column numbers and the values of g stand in their places
pub record InPlace (g : Grid) (w : List ℕ) : Type 0 where
  pub fits : grid_size g ≤ length w
  pub starts : (i : ℕ) → i ≤ g.rows → start w i ≡ entries_before g i
  pub columns : part (columns_at g.rows) (count_again_at g.rows (entry_count g)) w ≡ grid_columns g
  pub values : part (values_at g.rows (entry_count g)) (grid_size g) w ≡ grid_values g

-- and the header too: every word of the writing of g stands in s
pub record Assembled (g : Grid) (s : List ℕ) : Type 0 where
  pub sections : InPlace g s
  pub header : HeaderOf g.rows g.cols (entry_count g) s

module _ (g : Grid) (s : List ℕ) (h : Assembled g s) where
  -- the revision's section
  revised : part revision_at shape_count_at s ≡ revision s ∷ []
  revised = part_cons revision_at shape_count_at s (omega arith) (omega arith)

  -- the shape's section
  shape : part rows_at start_count_at s ≡ g.rows ∷ g.cols ∷ []
  shape =
      part_cons rows_at start_count_at s (omega arith) (omega arith)
      ∙ ap (λ (l : List ℕ). rows s ∷ l) (part_cons cols_at start_count_at s (omega arith) (omega arith))
      ∙ rw (h.header.row_count, h.header.col_count)

  -- the row starts' section
  starts_section : part starts_at (count_at g.rows) s ≡ grid_starts g
  starts_section =
      let e = count_at g.rows in
      starts_are g (part starts_at e s)
      (length_part starts_at e s (omega arith) ∙ omega arith)
      (λ i l. part_at starts_at e i s (omega arith) ∙ rw (add_comm starts_at i) (h.sections.starts i l))

  -- the sections one after the other are the writing
  pub assembled : s ≡ written_revised (revision s) g s
  assembled =
      let r = g.rows in
      let n = entry_count g in
      (section_made revision_count_at revision_at shape_count_at s refl (omega arith) (omega arith)).here
      ∙ rw (
        (section_made shape_count_at rows_at start_count_at s refl (omega arith) (omega arith)).here,
        (section_made start_count_at starts_at (count_at r) s refl (omega arith) (omega arith)).here,
        (section_made (count_at r) (columns_at r) (count_again_at r n) s (omega arith) (omega arith) (omega arith)).here,
        (section_made (count_again_at r n) (values_at r n) (grid_size g) s (omega arith) (omega arith) (omega arith)).here,
        revised,
        shape,
        starts_section,
        h.sections.columns,
        h.sections.values,
      )
      (sym (encode_sections (revision s) g (drop (grid_size g) s)))

-- sections in their places, with the header written
module _ {g : Grid} {w : List ℕ} (h : InPlace g w) where
  -- the words of them all
  abbrev whole : List ℕ
  whole = headed g.rows g.cols (entry_count g) w

  pub headed_assembled : Assembled g whole
  headed_assembled =
      let r = g.rows in
      let c = g.cols in
      let n = entry_count g in
      record {
        sections = record {
          fits = omega (arith, headed_length r c n w);
          starts = λ i l. headed_start r c n w i l ∙ h.starts i l;
          columns = headed_columns r c n w h.fits ∙ h.columns;
          values = headed_values r c n w h.fits ∙ h.values;
        };
        header = headed_words r c n w h.fits;
      }

  -- are the writing of the grid, made anew
  pub headed_anew : whole ≡ written_over g whole
  headed_anew =
      assembled g whole headed_assembled
      ∙ ap (λ (v : ℕ). written_revised v g whole) (headed_revision g.rows g.cols (entry_count g) w h.fits)

  -- and then what lay behind them
  pub headed_written : whole ≡ written_over g w
  headed_written =
      headed_anew
      ∙ ap (λ (l : List ℕ). encode g ++ l) (headed_spare g.rows g.cols (entry_count g) w h.fits)
