-- `assign_row` leaves the row of an assign: A's entries at the listed columns, what is kept at the others, collected.
use native.Mathlib.Omega.{arith}
use mathlib.Core.Path.{◌∙◌}
use Rattle.bit_rows.proofs.Marks.{carries_none}
use Rattle.assign_rows.proofs.Row.{old_past, only_listed, assigned_room, assigned_row}
use Rattle.assign_rows.proofs.assign_row.Goals as goal

pub place_listed-top-requires : goal.place_listed-top-requires
place_listed-top-requires c =
    record {
      row = c.requires.places_le_max_cols_2;
      indices = c.requires.places_le_max_cols_4.indices;
      list_in_bounds = (λ k l. omega (arith, c.requires.places_le_max_cols_4.below k l, c.requires.places_in_bounds.1));
      no_marks = carries_none _;
    }

pub keep_unlisted-all-requires : goal.keep_unlisted-all-requires
keep_unlisted-all-requires c =
    record {
      places_in_bounds =
          (c.requires.places_le_max_cols_1, omega (arith, c.requires.places_in_bounds.1, c.place_listed-top.auto.ov));
      old_row = c.requires.places_le_max_cols_3;
      inverse_sized = c.requires.places_le_max_cols_4.inverse.sized;
      tracked = c.place_listed-top.ensures.tracked;
      only_listed = only_listed c.requires.places_le_max_cols_4 c.place_listed-top.ensures;
    }

pub collect-requires : goal.collect-requires
collect-requires c =
    let past = old_past c.args.accumulator c.requires.places_le_max_cols_3 in
    let long = c.keep_unlisted-all.auto.ov ∙ c.place_listed-top.auto.ov in
    record {
      fact_1 = c.keep_unlisted-all.ensures.tracked;
      fact_2 = assigned_room c.requires.places_le_max_cols_4 c.place_listed-top.ensures _ past
          c.keep_unlisted-all.ensures c.requires.places_in_bounds.0
          (omega (arith, c.requires.places_in_bounds.1, long));
    }

pub returns : goal.returns
returns c =
    let past = old_past c.args.accumulator c.requires.places_le_max_cols_3 in
    assigned_row c.requires.places_le_max_cols_4 c.place_listed-top.ensures _ past c.keep_unlisted-all.ensures
    c.requires.places_le_max_cols_1 c.collect.ensures
