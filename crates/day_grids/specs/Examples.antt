-- Computed examples of a day matrix over a base matrix: what each sentence says, and what its nearest wrong reading would
-- give.
use Rattle.std.specs.Prelude.{ℕ, ◌≡◌, refl, false, None, Some}
use Rattle.grid.specs.declared.EntryAt.TheVariants as entry
use Rattle.grid.specs.Grid.{Grid, empty_grid}
use Rattle.grid.specs.Entries.{one, gather, flatten, entry_count}
use Rattle.grid.specs.Position.{entry_at}
use Rattle.grid.specs.Update.{with_cell}
use Rattle.day_grids.specs.Day.{
  marking,
  marked,
  shown_from,
  through_pair,
  folded,
  rewritten_day,
  rewritten_marks,
  taken_day,
  taken_marks,
}

-- 3 by 2, with an entry in each row
base_grid : Grid
base_grid = with_cell (with_cell (with_cell (empty_grid 3 2) 0 0 (Some 10)) 1 0 (Some 11)) 2 1 (Some 12)

-- rows 0 and 2 have entries, row 1 has none
day_grid : Grid
day_grid = with_cell (with_cell (with_cell (empty_grid 3 2) 0 0 (Some 20)) 0 1 (Some 21)) 2 0 (Some 22)

-- row 1 is marked, and row 2 by an entry 0
marks_grid : Grid
marks_grid = with_cell (with_cell (empty_grid 1 3) 0 1 (Some 7)) 0 2 (Some 0)

-- "otherwise as a part of the base sheet": row 0 is not marked, though the day grid has entries there
unmarked_base : through_pair base_grid day_grid marks_grid 0 0 ≡ Some 10
unfolding marking marks_grid base_grid
unmarked_base = refl

-- "even if it is empty there": row 1 is not the base grid's
marked_empty : through_pair base_grid day_grid marks_grid 1 0 ≡ None
unfolding marking marks_grid day_grid
marked_empty = refl

-- "whatever their value": a mark 0 marks. A marked row is the day grid's alone: what the base grid has at (2, 1) is not
-- shown
marked_zero : through_pair base_grid day_grid marks_grid 2 0 ≡ Some 22
unfolding marking marks_grid day_grid
marked_zero = refl

marked_whole : through_pair base_grid day_grid marks_grid 2 1 ≡ None
unfolding marking marks_grid day_grid
marked_whole = refl

-- "reading through the pair counts in the sheet shown" (A11): in the day grid there are two entries before (2, 0), in
-- the base grid and in the folded one another number
shown_position : entry_at (shown_from base_grid day_grid marks_grid 2) 2 0 ≡ entry.Present 22 2
unfolding marking marks_grid day_grid entry_at flatten gather one
shown_position = refl

folded_position : entry_at (folded base_grid day_grid marks_grid) 2 0 ≡ entry.Present 22 1
unfolding marking marks_grid day_grid base_grid entry_at flatten gather one
folded_position = refl

-- "folding both": one entry of each of the rows 0 and 2
folded_entries : entry_count (folded base_grid day_grid marks_grid) ≡ 2
unfolding marking marks_grid day_grid base_grid flatten gather one
folded_entries = refl

-- a new row, 1 by 2
new_row : Grid
new_row = with_cell (empty_grid 1 2) 0 1 (Some 30)

-- the whole row is rewritten: what was at (0, 0) goes; "marks with 1", also where a mark of another value stood
rewritten_here : (rewritten_day day_grid 0 new_row).cell 0 1 ≡ Some 30
unfolding new_row
rewritten_here = refl

rewritten_gone : (rewritten_day day_grid 0 new_row).cell 0 0 ≡ None
unfolding new_row
rewritten_gone = refl

rewritten_other : (rewritten_day day_grid 0 new_row).cell 2 0 ≡ Some 22
unfolding day_grid
rewritten_other = refl

rewritten_mark : (rewritten_marks marks_grid 1).cell 0 1 ≡ Some 1
rewritten_mark = refl

-- "taking back empties the day row and its mark, if any": the day row also where there is no mark
taken_unmarked : (taken_day day_grid 0).cell 0 1 ≡ None
taken_unmarked = refl

taken_mark : marked (taken_marks marks_grid 2) 2 ≡ false
unfolding marking
taken_mark = refl

taken_other : (taken_marks marks_grid 2).cell 0 1 ≡ Some 7
unfolding marks_grid
taken_other = refl
