-- `new_empty` answers and leaves what `Created` says.
use native.Mathlib.Omega.{arith}
use mathlib.Core.Path.{sym}
use Rattle.matrix.proofs.Facts.{range_facts}
use Rattle.create.proofs.Cases.{rows_refused, cols_refused, space_refused, created}
use Rattle.create.proofs.new_empty.Goals as goal
use Rattle.create.proofs.new_empty.Goals.{then-not-in_range-via-then-not-in_range, then-not-in_range-via-else-not-in_range+then-not-in_range-2}

pub returns-then-not-in_range : goal.returns-then-not-in_range
returns-then-not-in_range c =
    elim c.then-not-in_range.branch [
      | then-not-in_range-via-then-not-in_range w ↦ rows_refused _ _ _ (sym w.if-not-in_range.ensures)
      | then-not-in_range-via-else-not-in_range+then-not-in_range-2 w ↦
          cols_refused _ _ _ (sym w.if-not-in_range.ensures) (sym w.if-not-in_range-2.ensures)
    ]

pub returns-then-buffer-rows : goal.returns-then-buffer-rows
returns-then-buffer-rows c =
    space_refused _ _ _ (sym c.if-not-in_range.ensures) (sym c.if-not-in_range-2.ensures) (omega arith)

pub write_empty-requires : goal.write_empty-requires
write_empty-requires c = let r = range_facts _ _ (sym c.if-not-in_range.ensures) in omega arith

pub returns : goal.returns
returns c =
    created _ _ _ (sym c.if-not-in_range.ensures) (sym c.if-not-in_range-2.ensures) (omega arith) _
    c.write_empty.ensures
