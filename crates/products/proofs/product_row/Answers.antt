-- `product_row`: a row without entries gives none; for any other the rows are added up and the sums gathered.
use Rattle.rows.proofs.Holds.{holds_absent, holds_same}
use Rattle.rows.proofs.Walk.{absent_all}
use Rattle.dense_rows.proofs.Cells.{spread_none}
use Rattle.products.proofs.Dot.{dot_none}
use borrow.Author.Rules.{rules}
use Rattle.products.proofs.product_row.Goals as goal

pub returns-then-is_empty : goal.returns-then-is_empty
returns-then-is_empty c =
    holds_absent _ _ _ _ (λ j. dot_none _ _ _ _ _ (λ k l. absent_all _ _ (search rules) k))

pub add_rows-requires : goal.add_rows-requires
add_rows-requires c =
    record {
      row = c.requires.row;
      matrix = c.requires.matrix;
      spread = spread_none;
    }

pub returns : goal.returns
returns c = holds_same c.gather_row.ensures _ (λ j l. c.add_rows.ensures.cell j)
