-- "Day sheet over base sheet" (document 02, A7) on plain grids: `base` and `day` are "both of one shape", and `marks` is
-- "a strip 1 by R whose entries, whatever their value, mark the rewritten rows".
use Rattle.std.specs.Prelude.{ℕ, Bool, true, false, cond, eqb, None, Some}
use Rattle.grid.specs.Cell.{Cell}
use Rattle.grid.specs.Grid.{Grid}
use Rattle.grid.specs.Update.{with_cell}

-- "whose entries, whatever their value, mark"
unfoldable pub marking : Cell → Bool
marking None = false
marking (Some v) = true

-- whether row i is marked
abbrev pub marked : Grid → ℕ → Bool
marked marks i = marking (marks.cell 0 i)

-- "A row is shown from the day sheet where the strip marks it, even if it is empty there, and otherwise as a part of the
-- base sheet": the grid that row i is shown from
abbrev pub shown_from : Grid → Grid → Grid → ℕ → Grid
shown_from base day marks i = cond (marked marks i) day base

-- "reading a cell through the pair"
abbrev pub through_pair : Grid → Grid → Grid → ℕ → ℕ → Cell
through_pair base day marks i j = (shown_from base day marks i).cell i j

-- "folding both into one new sheet"
abbrev pub folded : Grid → Grid → Grid → Grid
folded base day marks = record { rows = base.rows; cols = base.cols; cell = through_pair base day marks }

-- the cells of row i are those of `row`, every other cell as it was
abbrev pub with_row : Grid → ℕ → (ℕ → Cell) → Grid
with_row g i row = record {
  rows = g.rows;
  cols = g.cols;
  cell = λ r c. cond (eqb r i) (row c) (g.cell r c);
}

-- "Rewriting takes a 1 by C strip and marks with 1"
abbrev pub rewritten_day : Grid → ℕ → Grid → Grid
rewritten_day day i new = with_row day i (new.cell 0)

abbrev pub rewritten_marks : Grid → ℕ → Grid
rewritten_marks marks i = with_cell marks 0 i (Some 1)

-- "taking back empties the day row and its mark, if any"
abbrev pub no_entries : ℕ → Cell
no_entries j = None

abbrev pub taken_day : Grid → ℕ → Grid
taken_day day i = with_row day i no_entries

abbrev pub taken_marks : Grid → ℕ → Grid
taken_marks marks i = with_cell marks 0 i None
