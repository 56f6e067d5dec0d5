-- `reduce_rows` leaves the totals of the rows: those of the rows before j are written.
use native.Mathlib.Omega.{arith}
use mathlib.Core.Path.{sym, ap, ◌∙◌}
use Rattle.reductions.specs.Reductions.{reduced}
use Rattle.matrix.proofs.Facts.{row_span}
use Rattle.reduce_rows.proofs.Reducing.{reducing_start, reducing_room, reducing_put, reducing_skip}
use Rattle.reduce_rows.proofs.reduce_rows.Goals as goal
use Rattle.reduce_rows.proofs.reduce_rows.Goals.{in-Some, in_default}

pub loop-j-init : goal.loop-j-init
loop-j-init c = reducing_start _ _ _ _

pub row_values-values-requires : goal.row_values-values-requires
row_values-values-requires c =
    (c.requires.fact_1.header, row_span _ c.requires.fact_1.starts _ (rw c.row_count-n.ensures at c.loop-j-test.true))

pub bounds-oc-e : goal.bounds-oc-e
bounds-oc-e c =
    let below = rw c.row_count-n.ensures at c.loop-j-test.true in
    omega (arith, reducing_room c.requires.fact_1 c.loop-j.invariant below, c.requires.fact_2)

pub bounds-ov-e : goal.bounds-ov-e
bounds-ov-e c =
    let below = rw c.row_count-n.ensures at c.loop-j-test.true in
    omega (arith, reducing_room c.requires.fact_1 c.loop-j.invariant below, c.requires.fact_2)

pub loop-j-preserved : goal.loop-j-preserved
loop-j-preserved c =
    let w = c.requires.fact_1 in
    let h = c.loop-j.invariant in
    let below = rw c.row_count-n.ensures at c.loop-j-test.true in
    let same = ap (reduced _) c.row_values-values.ensures.words in
    elim c.match-reduce_values.branch [
      | in-Some t ↦ rw (t.oc-is, t.ov-is, t.e-is)
          (reducing_put w h below c.requires.fact_2.0 c.requires.fact_2.1 (sym (t.in-Some.ensures ∙ same)))
      | in_default t ↦ rw (t.oc-is, t.ov-is, t.e-is)
          (reducing_skip w h below (sym (t.in_default.ensures ∙ same)))
    ]
