-- A grid with one cell changed (document 01, "The shelf": "set puts the value into the named cell; clear leaves none
-- there").
use Rattle.std.specs.Prelude.{ℕ, ◌≡◌, refl, cond, eqb, None, Some}
use Rattle.grid.specs.Cell.{Cell}
use Rattle.grid.specs.Grid.{Grid, empty_grid}

-- the cell at row i and column j is x, every other one as it was
abbrev pub with_cell : Grid → ℕ → ℕ → Cell → Grid
with_cell g i j x = record {
  rows = g.rows;
  cols = g.cols;
  cell = λ r c. cond (eqb r i) (cond (eqb c j) x (g.cell r c)) (g.cell r c);
}

set_here : (with_cell (empty_grid 2 3) 1 2 (Some 7)).cell 1 2 ≡ Some 7
set_here = refl

set_beside : (with_cell (empty_grid 2 3) 1 2 (Some 7)).cell 1 1 ≡ None
set_beside = refl

set_above : (with_cell (empty_grid 2 3) 1 2 (Some 7)).cell 0 2 ≡ None
set_above = refl

clear_here : (with_cell (with_cell (empty_grid 2 3) 1 2 (Some 7)) 1 2 None).cell 1 2 ≡ None
clear_here = refl
