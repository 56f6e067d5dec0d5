-- `put_matrix` appends the first line and the lines of all rows.
use native.Mathlib.Omega.{arith}
use mathlib.Core.List.{List}
use Prim.Native.Nat.{ℕ}
use Rattle.matrix.specs.Layout.{rows, cols, entries}
use Rattle.encoding.specs.OneWriting.{AreWords}
use Rattle.append.specs.Appended.{Appended}
use Rattle.text.specs.Text.{entry_line}
use Rattle.text.proofs.Cases.{head_room, rows_room, text_made, text_end}
use Rattle.text.proofs.put_matrix.Goals as goal

pub put_line-at-requires : goal.put_line-at-requires
put_line-at-requires c =
    let w : AreWords c.args.words.now = λ k. omega (arith, c.type_inv.words k) in
    let r = head_room c.args.words.now c.requires.matrix c.args.out.now w c.requires.room in
    rw (c.row_count.ensures, c.col_count.ensures, c.entry_count.ensures) r

pub put_rows-requires-clause-room : goal.put_rows-requires-clause-room
put_rows-requires-clause-room c =
    let s : List ℕ = c.args.words.now in
    let w : AreWords s = λ k. omega (arith, c.type_inv.words k) in
    -- the first line is that of the matrix
    let told : Appended (entry_line (rows s) (cols s) (entries s)) c.args.out.now c.put_line-at.new.out 0
    c.put_line-at.result =
    rw (c.row_count.ensures, c.col_count.ensures, c.entry_count.ensures) at c.put_line-at.ensures in
    rows_room s c.requires.matrix c.args.out.now _ _ w c.requires.room told

pub returns : goal.returns
returns c =
    let s : List ℕ = c.args.words.now in
    let w : AreWords s = λ k. omega (arith, c.type_inv.words k) in
    -- the first line is that of the matrix
    let told : Appended (entry_line (rows s) (cols s) (entries s)) c.args.out.now c.put_line-at.new.out 0
    c.put_line-at.result =
    rw (c.row_count.ensures, c.col_count.ensures, c.entry_count.ensures) at c.put_line-at.ensures in
    let t = text_made s c.requires.matrix told c.put_rows.ensures in
    record { text = t; short = text_end s c.requires.matrix w t }
