-- How large a grid is in words: "its size is that of its sheet".
use Rattle.std.specs.Prelude.{ℕ, ◌≤◌}
use Rattle.limits.specs.Limits.{max_rows, max_cols, max_entries}
use Rattle.limits.specs.Sizes.{size_of}
use Rattle.limits.specs.Ranges.{InRange}
use Rattle.grid.specs.Grid.{Grid}
use Rattle.grid.specs.Entries.{entry_count}

abbrev pub grid_size : Grid → ℕ
grid_size g = size_of g.rows (entry_count g)

-- a grid within the limits. That each value is a word below 2 ^ 32 is the buffer's own.
pub record Within (g : Grid) : Type 0 where
  pub row_range : InRange max_rows g.rows
  pub col_range : InRange max_cols g.cols
  pub few : entry_count g ≤ max_entries
