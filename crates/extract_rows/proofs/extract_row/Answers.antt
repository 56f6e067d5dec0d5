-- `extract_row` leaves the listed cells: a row without entries gives none; of any other the entries are put at their
-- places, and what stands there is collected.
use native.Mathlib.Omega.{arith}
use borrow.Author.Tests.{true-eqb}
use Rattle.rows.proofs.Holds.{holds_absent}
use Rattle.rows.proofs.Walk.{absent_all}
use Rattle.bit_rows.proofs.Marks.{carries_none}
use Rattle.extract_rows.proofs.Extracting.{extracting_start, extracting_place, extracting_step}
use Rattle.extract_rows.proofs.Extracting.{extracting_room, extracting_done}
use Rattle.extract_rows.proofs.extract_row.Goals as goal

pub returns-then-is_empty : goal.returns-then-is_empty
returns-then-is_empty c = holds_absent _ _ _ _ (λ j. absent_all _ _ (true-eqb _ 0 c.if-is_empty.ensures) _)

pub loop-p-init : goal.loop-p-init
loop-p-init c = extracting_start c.requires.row_1 c.requires.row_2 c.requires.row_3 _ (carries_none _)

pub place_entry-top-requires : goal.place_entry-top-requires
place_entry-top-requires c =
    let h = c.loop-p.invariant in
    let m = extracting_place c.requires.row_1 c.requires.row_2 c.requires.row_3 h c.loop-p-test.true in
    record {
      place_in_bounds =
          (omega (arith, m, c.requires.row_2.few), omega (arith, m, h.long, c.requires.list_in_bounds.1));
      tracked = h.tracked;
    }

pub loop-p-preserved : goal.loop-p-preserved
loop-p-preserved c =
    extracting_step c.requires.row_1 c.requires.row_2 c.requires.row_3 c.loop-p.invariant c.loop-p-test.true
    c.requires.list_in_bounds.1 c.place_entry-top.ensures

pub collect-requires : goal.collect-requires
collect-requires c =
    let h = c.loop-p.invariant in
    record {
      fact_1 = h.tracked;
      fact_2 = extracting_room c.requires.row_1 c.requires.row_2 c.requires.row_3 h c.requires.list_in_bounds.0
          (omega (arith, h.long, c.requires.list_in_bounds.1));
    }

pub returns : goal.returns
returns c =
    extracting_done c.requires.row_1 c.requires.row_2 c.requires.row_3 c.loop-p.invariant c.loop-p-test.false
    c.collect.ensures
