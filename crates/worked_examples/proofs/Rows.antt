-- The test of a row says what the row claims. Cited by the theorem on the table.
use Rattle.std.proofs.Common.{None, Some}
use mathlib.Core.Path.{◌≡◌, refl, sym, ap}
use mathlib.Core.List.{List, [], ◌∷◌, Memᴰ}
use mathlib.Core.Bool.{true, false, false≢true}
use borrow.Author.Tests.{eqb-true}
use Rattle.conditions.specs.Tests.{all}
use Rattle.conditions.proofs.Tests.{and_left, and_right, all_at}
use Rattle.grid.specs.Cell.{Cell}
use Rattle.grid.specs.Grid.{Grid, Same}
use Rattle.worked_examples.specs.Rows.{Row, Correct, same_cell, same_grid, row_holds, all_hold}

-- two cells that the test takes for the same are the same
same_cell_lem : (x y : Cell) → same_cell x y ≡ true → x ≡ y
unfolding same_cell
same_cell_lem None None h = refl
same_cell_lem None (Some y) h = absurd (false≢true h)
same_cell_lem (Some x) None h = absurd (false≢true h)
same_cell_lem (Some x) (Some y) h = ap Some (eqb-true x y h)

-- and so are two grids
same_grid_lem : (g h : Grid) → same_grid g h ≡ true → Same g h
same_grid_lem g h k =
    let shape = and_left _ _ k in
    let cells = and_right _ _ k in
    record {
      rows = eqb-true _ _ (and_left _ _ shape);
      cols = eqb-true _ _ (and_right _ _ shape);
      cell = λ i j l m. same_cell_lem _ _
          (all_at (λ j. same_cell (g.cell i j) (h.cell i j)) h.cols j m
          (all_at (λ i. all h.cols (λ j. same_cell (g.cell i j) (h.cell i j))) h.rows i l cells));
    }

-- a row whose test holds is correct
row_correct : (r : Row) → row_holds r ≡ true → Correct r
unfolding row_holds
row_correct r h =
    record { well_formed_lem = and_left _ _ h; result = same_grid_lem _ _ (and_right _ _ h) }

-- each row of a list whose test holds is correct
pub rows_correct : (rows : List Row) → all_hold rows ≡ true → (r : Row) → Memᴰ r rows → Correct r
unfolding all_hold
rows_correct [] h r m = elim m [ ]
rows_correct (x ∷ rest) h r (Memᴰ.head e) = row_correct r (rw e (and_left _ _ h))
rows_correct (x ∷ rest) h r (Memᴰ.tail m) = rows_correct rest (and_right _ _ h) r m
