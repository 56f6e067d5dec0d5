-- What is folded, from the words.
use Rattle.std.specs.Prelude.{ℕ, List}
use Rattle.grid.specs.Grid.{Grid}
use Rattle.matrix.specs.Layout.{grid_of}
use Rattle.day_grids.specs.Day.{folded}

-- the folded grid
abbrev pub lent_fold : List ℕ → List ℕ → List ℕ → Grid
lent_fold base day marks = folded (grid_of base) (grid_of day) (grid_of marks)
