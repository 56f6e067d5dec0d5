-- Where an entry stands among all entries of a grid, "row by row and from left to right" (document 02, A11: "the
-- entry's position among the N, counted from 0, or, for an absent cell, the position where it would be put to keep the
-- order"). Grids know no row starts and no search: the entries before it are counted.
use Rattle.std.specs.Prelude.{ℕ, ◌+◌, ◌≡◌, refl, length, None, Some}
use Rattle.grid.specs.Cell.{Cell}
use Rattle.grid.specs.declared.EntryAt.{EntryAt}
use Rattle.grid.specs.declared.EntryAt.TheVariants as entry
use Rattle.grid.specs.Grid.{Grid, empty_grid}
use Rattle.grid.specs.Entries.{column, one, gather, flatten}
use Rattle.grid.specs.Update.{with_cell}

-- how many entries come before row i and column j: those of the rows before, and those of row i in columns before j
abbrev pub entry_position : Grid → ℕ → ℕ → ℕ
entry_position g i j = length (flatten column g.cols g.cell i) + length (gather column j (g.cell i))

-- a cell with its position
abbrev pub entry_of : Cell → ℕ → EntryAt
entry_of None p = entry.Absent p
entry_of (Some v) p = entry.Present v p

abbrev pub position_of : EntryAt → ℕ
position_of (entry.Absent p) = p
position_of (entry.Present v p) = p

-- the entry of row i and column j: present with its value and position, or absent with that where it would be put
unfoldable pub entry_at : Grid → ℕ → ℕ → EntryAt
entry_at g i j = entry_of (g.cell i j) (entry_position g i j)

-- the cell is absent, and its entry would have to be put at p
pub record AbsentAt (g : Grid) (i j p : ℕ) : Type 0 where
  pub cell : g.cell i j ≡ None
  pub position : p ≡ entry_position g i j

-- the cell is present, and its entry is at p
pub record PresentAt (g : Grid) (i j p : ℕ) : Type 0 where
  pub value : ℕ
  pub cell : g.cell i j ≡ Some value
  pub position : p ≡ entry_position g i j

-- ---- a 3 by 3 grid: 5 at (0, 2), nothing in row 1, 0 at (2, 0) and 7 at (2, 1)
abbrev three_entries : Grid
three_entries =
    with_cell (with_cell (with_cell (empty_grid 3 3) 0 2 (Some 5)) 2 0 (Some 0)) 2 1 (Some 7)

-- before all entries: those to the right and below do not count
before_all : entry_at three_entries 0 0 ≡ entry.Absent 0
unfolding entry_at flatten gather one
before_all = refl

-- the first entry: neither it nor the columns before it count
first_entry : entry_at three_entries 0 2 ≡ entry.Present 5 0
unfolding entry_at flatten gather one
first_entry = refl

-- in a row without entries: those of the rows before
in_empty_row : entry_at three_entries 1 2 ≡ entry.Absent 1
unfolding entry_at flatten gather one
in_empty_row = refl

-- a stored zero at the start of its row: present, and those of the rows before count
row_start : entry_at three_entries 2 0 ≡ entry.Present 0 1
unfolding entry_at flatten gather one
row_start = refl

-- the last entry: those of its own row count too
last_entry : entry_at three_entries 2 1 ≡ entry.Present 7 2
unfolding entry_at flatten gather one
last_entry = refl

-- behind all entries: N
behind_all : entry_at three_entries 2 2 ≡ entry.Absent 3
unfolding entry_at flatten gather one
behind_all = refl

-- without entries: 0, whatever the row and the column
in_empty_grid : entry_at (empty_grid 3 3) 2 1 ≡ entry.Absent 0
unfolding entry_at flatten gather one
in_empty_grid = refl
