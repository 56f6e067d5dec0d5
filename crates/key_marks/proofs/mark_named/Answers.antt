-- `mark_named` stamps the columns of a row that is named.
use Rattle.key_marks.proofs.Rows.{row_unnamed, row_named}
use Rattle.key_marks.proofs.mark_named.Goals as goal

pub returns-then-named-ne0 : goal.returns-then-named-ne0
returns-then-named-ne0 c =
    let a = c.args in
    row_named a.m.now a.i a.named c.requires.header c.requires.row c.if-named-ne0.true
    (rw c.row_columns.ensures.words at c.mark_row.ensures)

pub returns-else-named-ne0 : goal.returns-else-named-ne0
returns-else-named-ne0 c = row_unnamed c.args.m.now c.args.i c.args.named _ c.if-named-ne0.false
