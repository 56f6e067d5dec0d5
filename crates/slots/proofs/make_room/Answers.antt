-- `make_room` leaves the words as they are, moves the later sections up, or moves them down and clears what is free.
use native.Mathlib.Omega.{arith}
use mathlib.Core.Path.{refl, ◌∙◌}
use lib.ListN.{length-set}
use Rattle.slots.proofs.RoomMade.{unmoved, grown, shrunk}
use Rattle.slots.proofs.make_room.Goals as goal

pub returns-then-size-old : goal.returns-then-size-old
returns-then-size-old c = unmoved _ c.args.end c.args.size c.requires c.if-size-old.true

pub move_up-requires : goal.move_up-requires
move_up-requires c = (omega arith, simp length-set (omega arith))

pub shape_of-tail-then-old-size : goal.shape_of-tail-then-old-size
shape_of-tail-then-old-size c = c.move_up.auto.words ∙ simp length-set refl

pub returns-then-old-size : goal.returns-then-old-size
returns-then-old-size c =
    grown c.args.tail.now c.args.end c.args.size c.requires _ c.move_up.ensures (omega arith)

pub move_down-requires : goal.move_down-requires
move_down-requires c = (omega arith, simp length-set (omega arith))

pub slice_bounds-clear-end : goal.slice_bounds-clear-end
slice_bounds-clear-end c = simp (c.move_down.auto.words, length-set) (omega arith)

pub returns-else-old-size : goal.returns-else-old-size
returns-else-old-size c =
    shrunk c.args.tail.now c.args.end c.args.size c.requires _ c.move_down.ensures _ (omega arith)
    c.clear.ensures
