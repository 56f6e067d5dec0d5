-- Plain grids. They know no row starts and no search.
use Rattle.std.specs.Prelude.{ℕ, ◌<◌, ◌≡◌, None}
use Rattle.grid.specs.Cell.{Cell}

-- "one grid: rows, columns and, in each cell, a value or none". Only the cells within the shape count. A value is kept as
-- its word in two's complement.
pub record Grid : Type 0 where
  pub rows : ℕ
  pub cols : ℕ
  pub cell : ℕ → ℕ → Cell

-- "a grid of the given shape without values"
abbrev pub empty_grid : ℕ → ℕ → Grid
empty_grid r c = record { rows = r; cols = c; cell = λ i j. None }

-- two grids of one shape that agree in every cell of it
pub record Same (g h : Grid) : Type 0 where
  pub rows : g.rows ≡ h.rows
  pub cols : g.cols ≡ h.cols
  pub cell : (i j : ℕ) → i < h.rows → j < h.cols → g.cell i j ≡ h.cell i j
