-- A dense row: a mark and a value at every place, in two arrays of a row's size.
use Rattle.std.specs.Prelude.{ℕ, ◌≡◌, List, cond, length, eqb, None, Some}
use Rattle.limits.specs.Limits.{max_cols}
use Rattle.words.specs.Words.{at}
use Rattle.grid.specs.Cell.{Cell}

-- the cell that a mark and a value give: present where the mark is not 0
abbrev pub marked : ℕ → ℕ → Cell
marked m v = cond (eqb m 0) None (Some v)

-- the cell at place j
unfoldable pub dense : List ℕ → List ℕ → ℕ → Cell
dense marks cells j = marked (at marks j) (at cells j)

-- both arrays have a row's size
pub record Sized (marks cells : List ℕ) : Type 0 where
  pub marks_size : length marks ≡ max_cols
  pub cells_size : length cells ≡ max_cols

-- the arrays hold the row f
pub record Spread (f : ℕ → Cell) (marks cells : List ℕ) : Type 0 where
  pub sized : Sized marks cells
  pub cell : (j : ℕ) → dense marks cells j ≡ f j
