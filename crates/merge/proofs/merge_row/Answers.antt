-- `merge_row` leaves the combined row, each way by the function for it.
use Rattle.rows.proofs.Holds.{holds_absent, holds_same}
use Rattle.merge.proofs.Ways.{nothing_told, first_told, second_told, intersect_told, unite_told, masked_told}
use Rattle.merge.proofs.merge_row.Goals as goal

pub returns-in-Nothing : goal.returns-in-Nothing
returns-in-Nothing c =
    holds_absent _ _ _ _ (λ j. nothing_told _ _ c.way_of.ensures _ _ _ c.in-Nothing.is)

pub returns-in-First : goal.returns-in-First
returns-in-First c =
    holds_same c.copy_row.ensures _
    (λ j l. first_told _ _ c.way_of.ensures _ _ _ c.in-First.is)

pub returns-in-Second : goal.returns-in-Second
returns-in-Second c =
    holds_same c.copy_row-in-Second.ensures _
    (λ j l. second_told _ _ c.way_of.ensures _ _ _ c.in-Second.is)

pub returns-in-Intersect : goal.returns-in-Intersect
returns-in-Intersect c =
    holds_same c.intersect_rows.ensures _
    (λ j l. intersect_told _ _ c.way_of.ensures _ _ _ c.in-Intersect.is)

pub returns-in-Unite : goal.returns-in-Unite
returns-in-Unite c =
    holds_same c.unite_rows.ensures _
    (λ j l. unite_told _ _ c.way_of.ensures _ _ _ c.in-Unite.is)

pub returns-in-Masked : goal.returns-in-Masked
returns-in-Masked c =
    holds_same c.write_masked.ensures _
    (λ j l. masked_told _ _ c.way_of.ensures _ _ _ c.in-Masked.is)
