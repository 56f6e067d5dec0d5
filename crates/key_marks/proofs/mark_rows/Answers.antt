-- `mark_rows` stamps the columns of the rows before i that are named.
use native.Mathlib.Omega.{arith}
use mathlib.Core.Path.{◌∙◌}
use Rattle.matrix.proofs.Facts.{row_span}
use Rattle.key_marks.proofs.Rows.{row_below, rows_none, rows_next, rows_all}
use Rattle.key_marks.proofs.mark_rows.Goals as goal

pub loop-i-init : goal.loop-i-init
loop-i-init c = rows_none c.args.m.now c.args.from.now _

pub mark_named-requires-clause-row : goal.mark_named-requires-clause-row
mark_named-requires-clause-row c = row_span _ c.requires.valid.starts _ (omega arith)

pub mark_named-requires-clause-places : goal.mark_named-requires-clause-places
mark_named-requires-clause-places c =
    row_below c.requires.valid (c.loop-i.invariant.size ∙ c.requires.marks_size) _ (omega arith)

pub loop-i-preserved : goal.loop-i-preserved
loop-i-preserved c =
    rows_next c.args.m.now c.args.from.now c.loop-i.i c.requires.marking c.loop-i.invariant c.mark_named.ensures

pub returns : goal.returns
returns c = rows_all c.args.m.now c.args.from.now c.loop-i.i c.loop-i.invariant (omega arith)
