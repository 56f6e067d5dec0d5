-- A row of the table of worked examples and what it claims: of a whole call, or of the write-back of a T that is given.
use Rattle.std.specs.Prelude.{◌≡◌, List, [], ◌∷◌, Bool, true, false, eqb, None, Some}
use Rattle.conditions.specs.Tests.{◌and◌, all}
use Rattle.grid.specs.Cell.{Cell}
use Rattle.grid.specs.Grid.{Grid, empty_grid, Same}
use Rattle.operations.specs.declared.Call.{Call}
use Rattle.operations.specs.declared.WriteBack.{WriteBack}
use Rattle.operations.specs.WriteBacks.{final_grid}
use Rattle.operations.specs.Calls.{same_shape, shapes_agree, call_final}
use Rattle.worked_examples.specs.Listed.{Listed, matrix, listed_grid, listed_fits}

-- called: a call without mask on a and b, where C has no entries. written: T is written back into C under a mask. Both
-- say what the final C has to be.
pub data Row : Type 0 where
  called : (call : Call) (a b expected : Listed) → Row
  written : (w : WriteBack) (mask c t expected : Listed) → Row

-- stands for an input that a call does not have
abbrev pub none : Listed
none = matrix 1 1 []

abbrev pub expected : Row → Listed
expected (called call a b e) = e
expected (written w mask c t e) = e

-- "a grid of the given shape without values", here C before a call
abbrev pub empty_like : Listed → Grid
empty_like l = empty_grid l.rows l.cols

-- the final C, as the definitions of the operations give it
abbrev pub final : Row → Grid
final (called call a b e) = call_final call (listed_grid a) (listed_grid b) (listed_grid none) (empty_like e) [] []
final (written w mask c t e) = final_grid w (listed_grid mask) (listed_grid c) (listed_grid t)

-- the row's matrices fit, and their shapes agree
abbrev pub well_formed : Row → Bool
well_formed (called call a b e) =
    listed_fits a
    and listed_fits b
    and listed_fits e
    and shapes_agree call (listed_grid a) (listed_grid b) (listed_grid none) (empty_like e) [] []
well_formed (written w mask c t e) =
    listed_fits mask
    and listed_fits c
    and listed_fits t
    and listed_fits e
    and same_shape (listed_grid mask) (listed_grid c)
    and same_shape (listed_grid t) (listed_grid c)

-- what a row claims: the final C has the expected value, or none, in every cell
pub record Correct (r : Row) : Type 0 where
  pub well_formed_lem : well_formed r ≡ true
  pub result : Same (final r) (listed_grid (expected r))

-- the same claim as a test
unfoldable pub same_cell : Cell → Cell → Bool
same_cell None None = true
same_cell None (Some y) = false
same_cell (Some x) None = false
same_cell (Some x) (Some y) = eqb x y

abbrev pub same_grid : Grid → Grid → Bool
same_grid g h = same_shape g h and all h.rows (λ i. all h.cols (λ j. same_cell (g.cell i j) (h.cell i j)))

unfoldable pub row_holds : Row → Bool
row_holds r = well_formed r and same_grid (final r) (listed_grid (expected r))

unfoldable pub all_hold : List Row → Bool
all_hold [] = true
all_hold (r ∷ rest) = row_holds r and all_hold rest
