-- `product_row_inside`: as `product_row_by_entries`; of the sums those inside the mask are collected.
use native.Mathlib.Omega.{arith}
use Rattle.bit_rows.proofs.Marks.{carries_none}
use Rattle.products.proofs.ByEntries.{inside_empty, carries_inside, inside_room, inside_collected}
use borrow.Author.Rules.{rules}
use Rattle.products.proofs.by_entries.product_row_inside.Goals as goal

pub returns-then-is_empty : goal.returns-then-is_empty
returns-then-is_empty c =
    let a = c.args in
    inside_empty _ _ _ _ a.columns.now a.values.now a.b.now _ _ _ (search rules)

pub sum_rows-top-requires : goal.sum_rows-top-requires
sum_rows-top-requires c =
    record {
      row = c.requires.row;
      matrix = c.requires.matrix;
      clear = carries_none _;
      sums_room = c.requires.output_room.1;
    }

pub keep_inside-requires : goal.keep_inside-requires
keep_inside-requires c =
    record {
      fact_1 = c.requires.under_mask;
      fact_2 = c.sum_rows-top.ensures.tracked.size;
    }

pub collect-requires : goal.collect-requires
collect-requires c =
    let s = (carries_inside c.sum_rows-top.ensures c.keep_inside.ensures) in
    record {
      fact_1 = s.tracked;
      fact_2 = inside_room _ _ _ _ c.requires.matrix _ _ s c.requires.output_room.0 (omega (
        arith,
        c.requires.output_room.1,
        c.sum_rows-top.auto.sums,
      ));
    }

pub returns : goal.returns
returns c =
    inside_collected _ _ _ _ c.requires.matrix _ _ (carries_inside c.sum_rows-top.ensures c.keep_inside.ensures)
    c.collect.ensures
