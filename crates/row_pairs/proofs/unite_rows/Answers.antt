-- `unite_rows` leaves the union: before each turn all columns below the two indexes are done.
use native.Mathlib.Omega.{arith}
use mathlib.Core.Path.{◌∙◌}
use Rattle.row_pairs.proofs.Turns.{at_most, some_step}
use Rattle.row_pairs.proofs.Uniting.{uniting_start, uniting_room, uniting_turn}
use Rattle.row_pairs.proofs.Uniting.{first_room, first_done, second_room, second_done}
use Rattle.row_pairs.proofs.unite_rows.Goals as goal

pub loop-i-init : goal.loop-i-init
loop-i-init c = uniting_start _ c.requires.first_row c.requires.second_row _ _

pub copy_rest-requires : goal.copy_rest-requires
copy_rest-requires c =
    first_room c.args.op c.requires.first_row c.requires.second_row c.loop-i.invariant c.requires.output_room.0
    c.requires.output_room.1 c.if-bc-k.true

pub shape_of-oc-then-bc-k : goal.shape_of-oc-then-bc-k
shape_of-oc-then-bc-k c = c.copy_rest.auto.oc ∙ c.loop-i.invariant.columns_kept

pub shape_of-ov-then-bc-k : goal.shape_of-ov-then-bc-k
shape_of-ov-then-bc-k c = c.copy_rest.auto.ov ∙ c.loop-i.invariant.values_kept

pub returns-then-bc-k : goal.returns-then-bc-k
returns-then-bc-k c =
    first_done _ c.requires.first_row c.requires.second_row c.loop-i.invariant c.requires.output_room.0
    c.requires.output_room.1 c.if-bc-k.true c.copy_rest.ensures

pub offset_bounds-oc-e : goal.offset_bounds-oc-e
offset_bounds-oc-e c =
    omega (
      arith,
      (uniting_room c.args.op c.requires.first_row c.requires.second_row c.loop-i.invariant
          c.requires.output_room.0
          c.requires.output_room.1 c.loop-i-test.true c.if-bc-k.false).0,
    )

pub bounds-oc-e : goal.bounds-oc-e
bounds-oc-e c =
    (uniting_room c.args.op c.requires.first_row c.requires.second_row c.loop-i.invariant c.requires.output_room.0
    c.requires.output_room.1 c.loop-i-test.true c.if-bc-k.false).0

pub offset_bounds-av-i : goal.offset_bounds-av-i
offset_bounds-av-i c = omega (arith, c.requires.first_row.even)

pub bounds-av-i : goal.bounds-av-i
bounds-av-i c = omega (arith, c.requires.first_row.even)

pub offset_bounds-bv-k : goal.offset_bounds-bv-k
offset_bounds-bv-k c = omega (arith, c.requires.second_row.even)

pub bounds-bv-k : goal.bounds-bv-k
bounds-bv-k c = omega (arith, c.requires.second_row.even)

pub offset_bounds-ov-e : goal.offset_bounds-ov-e
offset_bounds-ov-e c =
    omega (
      arith,
      (uniting_room c.args.op c.requires.first_row c.requires.second_row c.loop-i.invariant
          c.requires.output_room.0
          c.requires.output_room.1 c.loop-i-test.true c.if-bc-k.false).1,
    )

pub bounds-ov-e : goal.bounds-ov-e
bounds-ov-e c =
    (uniting_room c.args.op c.requires.first_row c.requires.second_row c.loop-i.invariant c.requires.output_room.0
    c.requires.output_room.1 c.loop-i-test.true c.if-bc-k.false).1

pub overflow_add-e : goal.overflow_add-e
overflow_add-e c =
    omega (
      arith,
      (uniting_room c.args.op c.requires.first_row c.requires.second_row c.loop-i.invariant
          c.requires.output_room.0
          c.requires.output_room.1 c.loop-i-test.true c.if-bc-k.false).0,
    )

pub loop-i-smaller : goal.loop-i-smaller
loop-i-smaller c = omega (arith, some_step (at_most c.from-i.ensures) (at_most c.from-k.ensures))

pub loop-i-preserved : goal.loop-i-preserved
loop-i-preserved c =
    uniting_turn _ c.requires.first_row c.requires.second_row c.loop-i.invariant c.requires.output_room.0
    c.requires.output_room.1 c.loop-i-test.true
    c.if-bc-k.false c.min.ensures c.united.ensures
    (at_most c.from-i.ensures) (at_most c.from-k.ensures)

pub copy_rest-requires-2 : goal.copy_rest-requires-2
copy_rest-requires-2 c =
    second_room c.args.op c.requires.first_row c.requires.second_row c.loop-i.invariant c.requires.output_room.0
    c.requires.output_room.1 c.loop-i-test.false

pub shape_of-oc : goal.shape_of-oc
shape_of-oc c = c.copy_rest-2.auto.oc ∙ c.loop-i.invariant.columns_kept

pub shape_of-ov : goal.shape_of-ov
shape_of-ov c = c.copy_rest-2.auto.ov ∙ c.loop-i.invariant.values_kept

pub returns : goal.returns
returns c =
    second_done _ c.requires.first_row c.requires.second_row c.loop-i.invariant c.requires.output_room.0
    c.requires.output_room.1 c.loop-i-test.false
    c.copy_rest-2.ensures
