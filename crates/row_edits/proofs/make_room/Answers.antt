-- `make_room` moves the values first where the row grows, and the columns first where it does not.
use Rattle.row_edits.proofs.Opening.{grown, shrunk}
use Rattle.row_edits.proofs.make_room.Goals as goal

pub returns-then-b-a : goal.returns-then-b-a
returns-then-b-a c =
    rw (c.move_up-then-b-a.ensures, c.move_up.ensures) (grown _ _ _ _ _ _ c.requires c.if-b-a.true)

pub returns-else-b-a : goal.returns-else-b-a
returns-else-b-a c =
    rw (c.move_down-else-b-a.ensures, c.move_down.ensures) (shrunk _ _ _ _ _ _ c.requires c.if-b-a.false)
