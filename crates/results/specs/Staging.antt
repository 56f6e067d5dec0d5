-- The workspace while a result is put together. The column numbers are written where they stay; the values, whose place
-- depends on their number, are staged behind the largest column section and moved at the end.
use Rattle.std.specs.Prelude.{ℕ, ◌+◌, ◌-◌, ◌≤◌, ◌<◌, ◌≡◌, List, length, set}
use Rattle.limits.specs.Limits.{max_rows, max_cols, max_entries}
use Rattle.words.specs.Words.{part, overwrite}
use Rattle.grid.specs.Grid.{Grid}
use Rattle.grid.specs.Entries.{column, value, flatten}
use Rattle.encoding.specs.Encode.{entries_before}
use Rattle.matrix.specs.Layout.{start, starts_at, columns_at, values_at, max_matrix_words}
use Rattle.matrix.specs.HeaderWords.{headed}

abbrev pub staged_at : ℕ
staged_at = max_matrix_words - max_entries

-- row i of r rows can be staged after n entries
pub record RowBounds (r i n : ℕ) (cs vs w : List ℕ) : Type 0 where
  pub rows : r ≤ max_rows
  pub row : i < r
  pub even : length vs ≡ length cs
  pub few : n + length cs ≤ max_entries
  pub space : max_matrix_words ≤ length w

-- the start of the row, its column numbers, its values
abbrev pub staged_row : ℕ → ℕ → ℕ → List ℕ → List ℕ → List ℕ → List ℕ
staged_row r i n cs vs w =
    overwrite (staged_at + n) vs (overwrite (columns_at r + n) cs (set w (i + starts_at) n))

-- i rows of the grid g are staged, with n entries
pub record Staged (g : Grid) (i n : ℕ) (w : List ℕ) : Type 0 where
  pub count : n ≡ entries_before g i
  pub starts : (k : ℕ) → k < i → start w k ≡ entries_before g k
  pub columns : part (columns_at g.rows) (columns_at g.rows + n) w ≡ flatten column g.cols g.cell i
  pub values : part staged_at (staged_at + n) w ≡ flatten value g.cols g.cell i

-- n entries in r rows and c columns
pub record ResultBounds (r c n : ℕ) (w : List ℕ) : Type 0 where
  pub rows : r ≤ max_rows
  pub cols : c ≤ max_cols
  pub few : n ≤ max_entries
  pub space : max_matrix_words ≤ length w

-- the values in their place, the last start, and the header
abbrev pub finished : ℕ → ℕ → ℕ → List ℕ → List ℕ
finished r c n w = headed r c n (set (overwrite (values_at r n) (part staged_at (staged_at + n) w) w) (r + starts_at) n)
