-- `sum_rows` adds up the rows that the entries name: those of the entries before p are added.
use native.Mathlib.Omega.{arith}
use Prim.Native.Nat.{◌<◌}
use Rattle.words.specs.Words.{at}
use Rattle.matrix.specs.Layout.{rows}
use Rattle.matrix.proofs.Facts.{row_span}
use Rattle.products.proofs.Summing.{matrix_row}
use Rattle.products.proofs.ByEntries.{matrix_row_in, totalling_start, totalling_step, totalling_done}
use Rattle.products.proofs.by_entries.sum_rows.Goals as goal

pub loop-p-init : goal.loop-p-init
loop-p-init c = totalling_start c.requires.row c.requires.clear

pub sum_matrix_row-top-requires : goal.sum_matrix_row-top-requires
sum_matrix_row-top-requires c =
    let h = c.loop-p.invariant in
    let m = c.requires.matrix in
    let small : at c.args.columns.now c.loop-p.p < rows c.args.b.now = c.requires.row.small _ c.loop-p-test.true in
    record {
      header = m.header;
      row_span = row_span _ m.starts _ small;
      row = matrix_row _ m _ small;
      row_fits = matrix_row_in _ m _ small (omega (arith, c.requires.sums_room, h.long));
      tracked = h.tracked;
    }

pub loop-p-preserved : goal.loop-p-preserved
loop-p-preserved c =
    totalling_step c.requires.row c.loop-p.invariant c.loop-p-test.true c.sum_matrix_row-top.auto.sums
    c.sum_matrix_row-top.ensures

pub shape_of-sums : goal.shape_of-sums
shape_of-sums c = c.loop-p.invariant.long

pub returns : goal.returns
returns c = totalling_done c.requires.row c.loop-p.invariant (omega arith)
