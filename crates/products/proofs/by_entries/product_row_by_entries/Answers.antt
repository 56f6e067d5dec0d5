-- `product_row_by_entries`: a row without entries gives none; for any other the rows are added up and the sums
-- collected.
use native.Mathlib.Omega.{arith}
use Rattle.rows.proofs.Holds.{holds_absent}
use Rattle.rows.proofs.Walk.{absent_all}
use Rattle.bit_rows.proofs.Marks.{carries_none}
use Rattle.products.proofs.Dot.{dot_none}
use Rattle.products.proofs.ByEntries.{product_room, product_collected}
use borrow.Author.Rules.{rules}
use Rattle.products.proofs.by_entries.product_row_by_entries.Goals as goal

pub returns-then-is_empty : goal.returns-then-is_empty
returns-then-is_empty c =
    holds_absent _ _ _ _ (λ j. dot_none _ _ _ _ _ (λ k l. absent_all _ _ (search rules) k))

pub sum_rows-top-requires : goal.sum_rows-top-requires
sum_rows-top-requires c =
    record {
      row = c.requires.row;
      matrix = c.requires.matrix;
      clear = carries_none _;
      sums_room = c.requires.output_room.1;
    }

pub collect-requires : goal.collect-requires
collect-requires c =
    record {
      fact_1 = c.sum_rows-top.ensures.tracked;
      fact_2 = product_room _ _ _ _ c.requires.matrix c.sum_rows-top.ensures c.requires.output_room.0 (omega (
        arith,
        c.requires.output_room.1,
        c.sum_rows-top.auto.sums,
      ));
    }

pub returns : goal.returns
returns c = product_collected _ _ _ _ c.requires.matrix c.sum_rows-top.ensures c.collect.ensures
