-- `resize` lends the tail from the slot's section on.
use native.Mathlib.Omega.{arith}
use Rattle.slots.proofs.Resized.{found, tail_room, resized_words}
use Rattle.slots.proofs.resize.Goals as goal

pub offset_bounds-store-at : goal.offset_bounds-store-at
offset_bounds-store-at c = let f = found _ _ c.args.end c.args.size _ c.requires c.find-at.ensures in omega arith

pub slice_bounds-make_room-count : goal.slice_bounds-make_room-count
slice_bounds-make_room-count c = let f = found _ _ c.args.end c.args.size _ c.requires c.find-at.ensures in omega arith

pub slice_bounds-make_room-start : goal.slice_bounds-make_room-start
slice_bounds-make_room-start c = let f = found _ _ c.args.end c.args.size _ c.requires c.find-at.ensures in omega arith

pub overflow_sub-end : goal.overflow_sub-end
overflow_sub-end c =
    let f = found _ _ c.args.end c.args.size _ c.requires c.find-at.ensures in
    let e = c.requires.ends in
    omega arith

pub make_room-requires : goal.make_room-requires
make_room-requires c =
    tail_room c.args.store.now c.args.slot c.args.end c.args.size _ c.requires
    c.find-at.ensures

pub returns : goal.returns
returns c =
    resized_words c.args.store.now c.args.slot c.args.end c.args.size _ c.requires c.find-at.ensures _
    c.make_room.ensures
