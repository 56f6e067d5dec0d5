-- A plain grid that is given the same rewrites and takings back as a day matrix over a base matrix.
use Rattle.std.specs.Prelude.{ℕ, cond, eqb, None, Some}
use Rattle.answers.specs.Answers.{Answer}
use Rattle.answers.specs.Answers.{CellAnswer}
use Rattle.grid.specs.Cell.{Cell}
use Rattle.grid.specs.Grid.{Grid}
use Rattle.day_grids.specs.Day.{with_row}

-- an accepted rewrite puts the new row in, a refused one changes nothing
abbrev pub plain_rewritten : Answer → ℕ → Grid → Grid → Grid
plain_rewritten answer i new g = cond (eqb answer.code 0) (with_row g i (new.cell 0)) g

-- an accepted taking back puts the base's row in
abbrev pub plain_taken : Answer → ℕ → Grid → Grid → Grid
plain_taken answer i base g = cond (eqb answer.code 0) (with_row g i (base.cell i)) g

-- the cell that a read answered
abbrev pub cell_read : CellAnswer → Cell
cell_read a = cond a.present (Some a.value) None
