-- `put_rows` appends the lines of all rows: after i turns those of the first i.
use native.Mathlib.Omega.{arith}
use Prim.Native.Nat.{◌<◌}
use mathlib.Core.Path.{◌≡◌}
use Rattle.matrix.specs.Layout.{rows}
use Rattle.matrix.proofs.Facts.{row_span}
use Rattle.matrix.proofs.Rows.{row_even}
use Rattle.text.proofs.Room.{rows_start, row_room, rows_turn}
use Rattle.text.proofs.put_rows.Goals as goal

pub row_count-i-end-requires : goal.row_count-i-end-requires
row_count-i-end-requires c = c.requires.matrix.header

pub loop-i-init : goal.loop-i-init
loop-i-init c = rows_start c.args.words.now c.args.out.now c.args.from (omega arith)

pub row_columns-requires : goal.row_columns-requires
row_columns-requires c =
    let m = c.requires.matrix in
    (m.header, row_span _ m.starts _ (omega arith))

pub row_values-requires : goal.row_values-requires
row_values-requires c =
    let m = c.requires.matrix in
    (m.header, row_span _ m.starts _ (omega arith))

pub put_row-at-requires : goal.put_row-at-requires
put_row-at-requires c =
    let l = c.loop-i in
    let a = c.args in
    let w = a.words.now in
    let m = c.requires.matrix in
    let h : l.i < rows w = omega arith in
    let p = c.row_columns.ensures.words in
    let q = c.row_values.ensures.words in record {
      even = rw (p, q) (row_even w l.i m.header (row_span w m.starts l.i h));
      room = rw (p, q) (row_room w l.i a.from l.at a.out.now l.out m h c.requires.room l.invariant);
    }

pub loop-i-preserved : goal.loop-i-preserved
loop-i-preserved c =
    let l = c.loop-i in
    let w = c.args.words.now in
    let m = c.requires.matrix in
    let h : l.i < rows w = omega arith in
    let e = c.row_columns.ensures.words in
    let f = c.row_values.ensures.words in
    rows_turn w l.i m h l.invariant (rw (e, f) at c.put_row-at.ensures)

pub returns : goal.returns
returns c =
    let l = c.loop-i in
    let e : l.i ≡ rows c.args.words.now = omega arith in
    rw e at l.invariant
