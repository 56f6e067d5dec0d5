-- `intersect_rows` leaves the intersection: before each turn all columns below the two indexes are done.
use native.Mathlib.Omega.{arith}
use Rattle.row_pairs.proofs.Turns.{small, at_most, equal, some_step}
use Rattle.row_pairs.proofs.Intersecting.{intersecting_start, intersecting_room, intersecting_turn}
use Rattle.row_pairs.proofs.Intersecting.{intersecting_end_first, intersecting_end_second}
use Rattle.row_pairs.proofs.intersect_rows.Goals as goal

pub loop-i-init : goal.loop-i-init
loop-i-init c = intersecting_start _ c.requires.first_row c.requires.second_row _ _

pub shape_of-oc-then-bc-k : goal.shape_of-oc-then-bc-k
shape_of-oc-then-bc-k c = c.loop-i.invariant.columns_kept

pub shape_of-ov-then-bc-k : goal.shape_of-ov-then-bc-k
shape_of-ov-then-bc-k c = c.loop-i.invariant.values_kept

pub returns-then-bc-k : goal.returns-then-bc-k
returns-then-bc-k c =
    intersecting_end_second _ c.requires.first_row c.requires.second_row c.loop-i.invariant c.if-bc-k.true

pub offset_bounds-oc-e : goal.offset_bounds-oc-e
offset_bounds-oc-e c =
    omega (
      arith,
      (intersecting_room c.args.op c.requires.first_row c.requires.second_row c.loop-i.invariant
          c.loop-i-test.true c.if-bc-k.false
          c.requires.output_room.0 c.requires.output_room.1).0,
    )

pub bounds-oc-e : goal.bounds-oc-e
bounds-oc-e c =
    (intersecting_room c.args.op c.requires.first_row c.requires.second_row c.loop-i.invariant c.loop-i-test.true
    c.if-bc-k.false
    c.requires.output_room.0 c.requires.output_room.1).0

pub offset_bounds-av-i : goal.offset_bounds-av-i
offset_bounds-av-i c = omega (arith, c.requires.first_row.even)

pub bounds-av-i : goal.bounds-av-i
bounds-av-i c = omega (arith, c.requires.first_row.even)

pub offset_bounds-bv-k : goal.offset_bounds-bv-k
offset_bounds-bv-k c = omega (arith, c.requires.second_row.even)

pub bounds-bv-k : goal.bounds-bv-k
bounds-bv-k c = omega (arith, c.requires.second_row.even)

pub offset_bounds-ov-e : goal.offset_bounds-ov-e
offset_bounds-ov-e c =
    omega (
      arith,
      (intersecting_room c.args.op c.requires.first_row c.requires.second_row c.loop-i.invariant
          c.loop-i-test.true c.if-bc-k.false
          c.requires.output_room.0 c.requires.output_room.1).1,
    )

pub bounds-ov-e : goal.bounds-ov-e
bounds-ov-e c =
    (intersecting_room c.args.op c.requires.first_row c.requires.second_row c.loop-i.invariant c.loop-i-test.true
    c.if-bc-k.false
    c.requires.output_room.0 c.requires.output_room.1).1

pub overflow_add-e : goal.overflow_add-e
overflow_add-e c =
    omega (
      arith,
      small _ c.from-e.ensures,
      (intersecting_room c.args.op c.requires.first_row c.requires.second_row c.loop-i.invariant c.loop-i-test.true
          c.if-bc-k.false
          c.requires.output_room.0 c.requires.output_room.1).0,
    )

pub loop-i-smaller : goal.loop-i-smaller
loop-i-smaller c = omega (arith, some_step (at_most c.from-i.ensures) (at_most c.from-k.ensures))

pub loop-i-preserved : goal.loop-i-preserved
loop-i-preserved c =
    intersecting_turn _ c.requires.first_row c.requires.second_row c.loop-i.invariant c.loop-i-test.true
    c.if-bc-k.false c.requires.output_room.0
    c.requires.output_room.1 c.apply_binary.ensures (equal c.from-e.ensures)
    (at_most c.from-i.ensures) (at_most c.from-k.ensures)

pub shape_of-oc : goal.shape_of-oc
shape_of-oc c = c.loop-i.invariant.columns_kept

pub shape_of-ov : goal.shape_of-ov
shape_of-ov c = c.loop-i.invariant.values_kept

pub returns : goal.returns
returns c =
    intersecting_end_first _ c.requires.first_row c.requires.second_row c.loop-i.invariant c.loop-i-test.false
