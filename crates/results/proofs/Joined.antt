-- The sections of a grid, joined, are its writing.
use Prim.Native.Nat.{ℕ, ◌+◌, ◌≤◌, ◌<◌}
use native.Mathlib.Omega.{arith}
use native.Mathlib.Decide.{dec_lt}
use native.Mathlib.Nat.{add_comm}
use mathlib.Core.Path.{◌≡◌, ap, ◌∙◌}
use mathlib.Core.List.{List}
use lib.ListN.{length, set, length-set}
use lib.Seq.{get_or-set_same, get_or-set_other}
use Rattle.words.specs.Words.{at, part, overwrite}
use Rattle.words.proofs.Overwrite.{
  overwrite_length,
  overwrite_before,
  overwrite_at,
  overwrite_part_before,
  overwrite_part_after,
  overwrite_here,
}
use Rattle.grid.specs.Grid.{Grid}
use Rattle.grid.specs.Entries.{column, value, entry_count, grid_columns, grid_values}
use Rattle.grid.proofs.Gather.{flatten_length}
use Rattle.matrix.specs.Layout.{starts_at, columns_at, count_again_at, values_at, size_of, start}
use Rattle.matrix.specs.HeaderWords.{headed}
use Rattle.encoding.specs.Encode.{entries_before, written_over}
use Rattle.encoding.proofs.Assembled.{InPlace, headed_written}
use Rattle.results.specs.Joining.{SectionBounds, joined}
use Rattle.results.proofs.Staged.{part_set_other}

-- the sections written one after another
pub joined_made : (r c : ℕ) (st vs w w₁ w₂ : List ℕ) → w₁ ≡ overwrite starts_at st w
    → w₂ ≡ overwrite (values_at r (length vs)) vs w₁
    → headed r c (length vs) (set w₂ (r + starts_at) (length vs)) ≡ joined r c st vs w
joined_made r c st vs w w₁ w₂ p q = rw (q, p)

module _ (g : Grid) (st vs w : List ℕ) (b : SectionBounds g.rows g.cols st vs w)
    (s : (k : ℕ) → k < g.rows → at st k ≡ entries_before g k)
    (c : part (columns_at g.rows) (columns_at g.rows + length vs) w ≡ grid_columns g) (v : vs ≡ grid_values g) where
  abbrev r : ℕ
  r = g.rows

  abbrev n : ℕ
  n = length vs

  -- the starts and the values in their places
  abbrev w₁ : List ℕ
  w₁ = overwrite starts_at st w

  abbrev w₂ : List ℕ
  w₂ = overwrite (values_at r n) vs w₁

  -- and the last start
  abbrev ended : List ℕ
  ended = set w₂ (r + starts_at) n

  room₁ : starts_at + length st ≤ length w
  room₁ = omega arith

  length₁ : length w₁ ≡ length w
  length₁ = overwrite_length starts_at st w room₁

  room₂ : values_at r n + length vs ≤ length w₁
  room₂ = omega (arith, length₁)

  length₂ : length w₂ ≡ length w
  length₂ = overwrite_length (values_at r n) vs w₁ room₂ ∙ length₁

  ended_length : length ended ≡ length w
  ended_length = simp length-set length₂

  count : n ≡ entry_count g
  count = ap length v ∙ flatten_length value column g.cols g.cell g.rows

  starts : (i : ℕ) → i ≤ r → start ended i ≡ entries_before g i
  starts i l = go (dec_lt i r)
    where
      go : Dec (i < r) → start ended i ≡ entries_before g i
      go (yes d) =
          get_or-set_other w₂ (r + starts_at) (i + starts_at) n 0 (λ e. omega arith)
          ∙ overwrite_before (values_at r n) vs w₁ room₂ (i + starts_at) (omega arith)
          ∙ rw (add_comm i starts_at) (overwrite_at starts_at st w room₁ i (omega arith)) ∙ s i d
      go (no d) =
          let e : i ≡ r = omega arith in
          rw e (get_or-set_same w₂ (r + starts_at) n 0 (omega (arith, length₂)) ∙ count)

  columns : part (columns_at r) (count_again_at r n) ended ≡ grid_columns g
  columns =
      let e : count_again_at r n ≡ columns_at r + n = omega arith in
      part_set_other (columns_at r) (count_again_at r n) (r + starts_at) n w₂ (omega (arith, length₂)) (λ k p q e. omega arith)
      ∙ overwrite_part_before (values_at r n) vs w₁ room₂ (columns_at r) (count_again_at r n) (omega arith)
      ∙ overwrite_part_after starts_at st w room₁ (columns_at r) (count_again_at r n) (omega arith) (omega arith) ∙ rw e c

  values : part (values_at r n) (size_of r n) ended ≡ grid_values g
  values =
      let e : size_of r n ≡ values_at r n + length vs = omega arith in
      part_set_other (values_at r n) (size_of r n) (r + starts_at) n w₂ (omega (arith, length₂)) (λ k p q e. omega arith)
      ∙ rw e (overwrite_here (values_at r n) vs w₁ room₂) ∙ v

  -- every section
  joined_in_place : InPlace g ended
  joined_in_place = record {
    fits = omega (arith, ended_length, count);
    starts = starts;
    columns = rw (← count) columns;
    values = rw (← count) values;
  }

  -- and the header, so every word of the writing
  pub joined_written : joined r g.cols st vs w ≡ written_over g ended
  joined_written = ap (λ (x : ℕ). headed r g.cols x ended) count ∙ headed_written joined_in_place
