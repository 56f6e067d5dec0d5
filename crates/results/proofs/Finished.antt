-- The words of a result whose rows are all staged are the writing of its grid.
use Prim.Native.Nat.{ℕ, ◌+◌, ◌≤◌, ◌<◌}
use native.Mathlib.Omega.{arith}
use native.Mathlib.Decide.{dec_lt}
use mathlib.Core.Path.{◌≡◌, sym, ap, ◌∙◌}
use mathlib.Core.List.{List}
use lib.ListN.{length, set, length-set}
use lib.Seq.{get_or-set_same, get_or-set_other}
use Rattle.words.specs.Words.{part, overwrite}
use Rattle.words.proofs.Parts.{length_part}
use Rattle.words.proofs.Overwrite.{overwrite_length, overwrite_before, overwrite_part_before, overwrite_here}
use Rattle.grid.specs.Grid.{Grid}
use Rattle.grid.specs.Entries.{entry_count, grid_columns, grid_values}
use Rattle.matrix.specs.Layout.{starts_at, columns_at, count_again_at, values_at, size_of, start}
use Rattle.matrix.specs.HeaderWords.{headed}
use Rattle.encoding.specs.Encode.{entries_before, written_over}
use Rattle.encoding.proofs.Assembled.{InPlace, headed_anew}
use Rattle.results.specs.Staging.{staged_at, ResultBounds, finished, Staged}
use Rattle.results.proofs.Staged.{part_set_other}

module _ (g : Grid) (n : ℕ) (w : List ℕ) (b : ResultBounds g.rows g.cols n w) (s : Staged g g.rows n w) where
  abbrev r : ℕ
  r = g.rows

  -- the values in their place
  abbrev moved : List ℕ
  moved = overwrite (values_at r n) (part staged_at (staged_at + n) w) w

  -- and the last start
  abbrev ended : List ℕ
  ended = set moved (r + starts_at) n

  staged_length : length (part staged_at (staged_at + n) w) ≡ n
  staged_length = length_part staged_at (staged_at + n) w (omega arith) ∙ omega arith

  room : values_at r n + length (part staged_at (staged_at + n) w) ≤ length w
  room = omega (arith, staged_length)

  moved_length : length moved ≡ length w
  moved_length = overwrite_length (values_at r n) (part staged_at (staged_at + n) w) w room

  ended_length : length ended ≡ length w
  ended_length = simp length-set moved_length

  -- the starts
  starts : (i : ℕ) → i ≤ r → start ended i ≡ entries_before g i
  starts i l = go (dec_lt i r)
    where
      go : Dec (i < r) → start ended i ≡ entries_before g i
      go (yes d) =
          get_or-set_other moved (r + starts_at) (i + starts_at) n 0 (λ e. omega arith)
          ∙ overwrite_before (values_at r n) (part staged_at (staged_at + n) w) w room (i + starts_at) (omega arith)
          ∙ s.starts i d
      go (no d) =
          let e : i ≡ r = omega arith in
          rw e (get_or-set_same moved (r + starts_at) n 0 (omega (arith, moved_length)) ∙ s.count)

  -- the columns
  columns : part (columns_at r) (count_again_at r n) ended ≡ grid_columns g
  columns =
      let e : count_again_at r n ≡ columns_at r + n = omega arith in
      part_set_other (columns_at r) (count_again_at r n) (r + starts_at) n moved (omega (arith, moved_length))
      (λ k p q e. omega arith)
      ∙ overwrite_part_before (values_at r n) (part staged_at (staged_at + n) w) w room (columns_at r) (count_again_at r n)
      (omega arith)
      ∙ rw e s.columns

  -- the values
  values : part (values_at r n) (size_of r n) ended ≡ grid_values g
  values =
      let e : size_of r n ≡ values_at r n + length (part staged_at (staged_at + n) w) = omega (arith, staged_length) in
      part_set_other (values_at r n) (size_of r n) (r + starts_at) n moved (omega (arith, moved_length))
      (λ k p q e. omega arith)
      ∙ rw e (overwrite_here (values_at r n) (part staged_at (staged_at + n) w) w room) ∙ s.values

  -- every section
  finished_in_place : InPlace g ended
  finished_in_place =
      let q : n ≡ entry_count g = s.count in
      record {
        fits = omega (arith, ended_length);
        starts = starts;
        columns = rw (← q) columns;
        values = rw (← q) values;
      }

  -- and the header, so every word of the writing
  pub finished_written : finished r g.cols n w ≡ written_over g (finished r g.cols n w)
  finished_written =
      let whole = headed r g.cols (entry_count g) ended in
      let e : finished r g.cols n w ≡ whole = ap (λ (x : ℕ). headed r g.cols x ended) s.count in
      e ∙ headed_anew finished_in_place ∙ ap (written_over g) (sym e)
