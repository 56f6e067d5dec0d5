-- `select_row` leaves the row that select gives: those entries before p that are kept are written.
use native.Mathlib.Omega.{arith}
use mathlib.Core.Path.{sym, ◌∙◌}
use Rattle.select_rows.proofs.Selecting.{selecting_start, selecting_room, selecting_kept, selecting_left}
use Rattle.select_rows.proofs.select_row.Goals as goal
use Rattle.select_rows.proofs.select_row.Goals.{else-is_selected, then-is_selected}

pub loop-p-init : goal.loop-p-init
loop-p-init c = selecting_start c.requires.fact_1 _ _ _ _

pub bounds-oc-e : goal.bounds-oc-e
bounds-oc-e c =
    omega (arith, selecting_room c.requires.fact_1 c.loop-p.invariant c.loop-p-test.true, c.requires.fact_2)

pub bounds-ov-e : goal.bounds-ov-e
bounds-ov-e c =
    omega (arith, selecting_room c.requires.fact_1 c.loop-p.invariant c.loop-p-test.true, c.requires.fact_2)

pub loop-p-preserved : goal.loop-p-preserved
loop-p-preserved c =
    let w = c.requires.fact_1 in
    let h = c.loop-p.invariant in
    let here = c.loop-p-test.true in
    elim c.if-is_selected.branch [
      | then-is_selected t ↦ rw (t.oc-is, t.ov-is, t.e-is)
          (selecting_kept w h here c.requires.fact_2.0 c.requires.fact_2.1
          (sym c.is_selected.ensures ∙ t.if-is_selected.true))
      | else-is_selected t ↦ rw (t.oc-is, t.ov-is, t.e-is)
          (selecting_left w h here (sym c.is_selected.ensures ∙ t.if-is_selected.false))
    ]
