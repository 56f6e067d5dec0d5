-- `add_rows` adds up the rows that the entries name: those of the entries before p are added.
use native.Mathlib.Omega.{arith}
use Prim.Native.Nat.{◌<◌}
use Rattle.words.specs.Words.{at}
use Rattle.matrix.specs.Layout.{rows}
use Rattle.matrix.proofs.Facts.{row_span}
use Rattle.products.proofs.Summing.{matrix_row, summing_start, summing_step, summing_done}
use Rattle.products.proofs.add_rows.Goals as goal

pub loop-p-init : goal.loop-p-init
loop-p-init c = summing_start c.requires.row c.requires.spread

pub add_matrix_row-requires : goal.add_matrix_row-requires
add_matrix_row-requires c =
    let m = c.requires.matrix in
    let small : at c.args.columns.now c.loop-p.p < rows c.args.b.now = c.requires.row.small _ c.loop-p-test.true in
    record {
      header = m.header;
      row_span = row_span _ m.starts _ small;
      row = matrix_row _ m _ small;
      sized = c.loop-p.invariant.sized;
    }

pub loop-p-preserved : goal.loop-p-preserved
loop-p-preserved c = summing_step c.requires.row c.loop-p.invariant c.loop-p-test.true c.add_matrix_row.ensures

pub returns : goal.returns
returns c = summing_done c.requires.row c.loop-p.invariant (omega arith)
