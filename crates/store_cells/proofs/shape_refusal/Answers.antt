-- `shape_refusal` looks at the slot and the shape.
use native.Mathlib.Omega.{arith}
use mathlib.Core.Path.{sym}
use Rattle.store_cells.proofs.Shapes.{slot_refused, rows_refused, cols_refused, shape_there}
use Rattle.store_cells.proofs.shape_refusal.Goals as goal
use Rattle.store_cells.proofs.shape_refusal.Goals.{then-not-in_range-via-then-not-in_range, then-not-in_range-via-else-not-in_range+then-not-in_range-2}

pub returns-then-slot-ge-SLOTS : goal.returns-then-slot-ge-SLOTS
returns-then-slot-ge-SLOTS c = slot_refused _ _ _ (omega arith)

pub returns-then-not-in_range : goal.returns-then-not-in_range
returns-then-not-in_range c =
    elim c.then-not-in_range.branch [
      | then-not-in_range-via-then-not-in_range w ↦ rows_refused _ _ _ (omega arith) (sym w.if-not-in_range.ensures)
      | then-not-in_range-via-else-not-in_range+then-not-in_range-2 w ↦
          cols_refused _ _ _ (omega arith) (sym w.if-not-in_range.ensures) (sym w.if-not-in_range-2.ensures)
    ]

pub returns : goal.returns
returns c = shape_there _ _ _ (omega arith) (sym c.if-not-in_range.ensures) (sym c.if-not-in_range-2.ensures)
