-- What the functions on marks require and leave.
use Rattle.std.specs.Prelude.{ℕ, ◌<◌, ◌≡◌, List, cond}
use Rattle.grid.specs.declared.EntryAt.{EntryAt}
use Rattle.grid.specs.declared.EntryAt.TheVariants as entry
use Rattle.matrix.specs.Layout.{rows, cols, grid_of}
use Rattle.matrix.specs.Facts.{Matrix}
use Rattle.day_grids.specs.Day.{marked}

-- a vector that has column i
pub record Vector (s : List ℕ) (i : ℕ) : Type 0 where
  pub matrix : Matrix s
  pub one_row : rows s ≡ 1
  pub col : i < cols s

-- the words that a mark more takes
abbrev pub mark_words : EntryAt → ℕ
mark_words (entry.Absent p) = 2
mark_words (entry.Present v p) = 0

-- the words of the matrix that row i is shown from
abbrev pub shown_words : List ℕ → List ℕ → List ℕ → ℕ → List ℕ
shown_words base day marks i = cond (marked (grid_of marks) i) day base
