-- Writing the entries of a grid column by column, as a walk over the rows of its transpose meets them: what is in place
-- when the first i columns have been passed.
use Rattle.std.specs.Prelude.{ℕ, ◌+◌, ◌≤◌, ◌<◌, ◌≡◌, List, length}
use Rattle.limits.specs.Limits.{max_entries}
use Rattle.words.specs.Words.{at, part}
use Rattle.grid.specs.Grid.{Grid}
use Rattle.grid.specs.Entries.{column, value, gather, grid_columns, grid_values, entry_count}
use Rattle.encoding.specs.Encode.{entries_before}

-- the column numbers and the values of a grid stand in the words of their sections, each after the word for their count
pub record EntrySections (g : Grid) (sections : List ℕ) : Type 0 where
  pub columns : part 1 (1 + entry_count g) sections ≡ grid_columns g
  pub values : part (entry_count g + 2) (entry_count g + 2 + entry_count g) sections ≡ grid_values g

-- how many entries row j has in its first i columns
abbrev pub filled : Grid → ℕ → ℕ → ℕ
filled g i j = length (gather column i (g.cell j))

-- in a section of columns or values that begins at word b, row j has what `emit` takes of those entries
abbrev pub Slots : (ℕ → ℕ → ℕ) → ℕ → Grid → ℕ → List ℕ → ℕ → Type 0
Slots emit b g i sections j =
    (k : ℕ) → k < filled g i j → at sections (b + (entries_before g j + k)) ≡ at (gather emit i (g.cell j)) k

-- row j has those entries in both sections, each after the word for its count, and `next` has the place of the next
pub record RowPlaced (g : Grid) (i : ℕ) (next sections : List ℕ) (j : ℕ) : Type 0 where
  pub next_place : at next j ≡ entries_before g j + filled g i j
  pub columns : Slots column 1 g i sections j
  pub values : Slots value (entry_count g + 2) g i sections j

-- every row has its entries of the first i columns
pub record Placed (g : Grid) (i : ℕ) (next sections : List ℕ) : Type 0 where
  pub row : (j : ℕ) → j < g.rows → RowPlaced g i next sections j

-- a grid with few enough entries, n of them, and room for its rows and its sections
pub record Room (g : Grid) (n : ℕ) (next sections : List ℕ) : Type 0 where
  pub entries_are : n ≡ entry_count g
  pub few : entry_count g ≤ max_entries
  pub rows_fit : g.rows ≤ length next
  pub sections_fit : length sections ≡ entry_count g + entry_count g + 2

-- before the first row: room, and the start of each row
pub record Ready (g : Grid) (next sections : List ℕ) : Type 0 where
  pub room : Room g (entry_count g) next sections
  pub starts : (j : ℕ) → j < g.rows → at next j ≡ entries_before g j
