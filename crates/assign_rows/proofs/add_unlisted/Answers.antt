-- `add_unlisted` keeps the old row at the columns that the list does not name: those entries before p are put.
use native.Mathlib.Omega.{arith}
use Rattle.assign_rows.proofs.Keeping.{keeping_start, keeping_put, keeping_left, keeping_done}
use Rattle.assign_rows.proofs.add_unlisted.Goals as goal
use Rattle.assign_rows.proofs.add_unlisted.Goals.{else-inverse-j-eq0, then-inverse-j-eq0}

pub loop-p-init : goal.loop-p-init
loop-p-init c = keeping_start _ _ _ c.requires.old_row c.requires.only_listed c.requires.tracked

pub mark_column-t-requires : goal.mark_column-t-requires
mark_column-t-requires c =
    record {
      fact_1 = omega (arith, c.requires.old_row.small c.loop-p.p c.loop-p-test.true, c.requires.places_in_bounds.0);
      fact_2 = c.loop-p.invariant.tracked;
    }

pub loop-p-preserved : goal.loop-p-preserved
loop-p-preserved c =
    let row = c.requires.old_row in
    let h = c.loop-p.invariant in
    let here = c.loop-p-test.true in
    elim c.if-inverse-j-eq0.branch [
      | then-inverse-j-eq0 w ↦ rw (w.map-is, w.ov-is, w.t-is)
          (keeping_put _ _ _ row c.requires.only_listed h here w.if-inverse-j-eq0.true c.requires.places_in_bounds.1
          w.mark_column-t.ensures)
      | else-inverse-j-eq0 w ↦ rw (w.map-is, w.ov-is, w.t-is)
          (keeping_left _ _ _ row c.requires.only_listed h here w.if-inverse-j-eq0.false)
    ]

pub returns : goal.returns
returns c =
    keeping_done _ _ _ c.requires.old_row c.requires.only_listed c.loop-p.invariant c.loop-p-test.false
