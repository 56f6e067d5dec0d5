-- `apply_row` leaves the row that apply gives: the entries before p are written.
use native.Mathlib.Omega.{arith}
use Rattle.apply_rows.proofs.Applying.{applying_start, applying_room, applying_step}
use Rattle.apply_rows.proofs.apply_row.Goals as goal

pub loop-p-init : goal.loop-p-init
loop-p-init c = applying_start c.requires.fact_1 _ _ _ _

pub bounds-oc-p : goal.bounds-oc-p
bounds-oc-p c =
    omega (arith, applying_room c.requires.fact_1 c.loop-p.invariant c.loop-p-test.true, c.requires.fact_2)

pub bounds-ov-p : goal.bounds-ov-p
bounds-ov-p c =
    omega (arith, applying_room c.requires.fact_1 c.loop-p.invariant c.loop-p-test.true, c.requires.fact_2)

pub loop-p-preserved : goal.loop-p-preserved
loop-p-preserved c =
    applying_step c.requires.fact_1 c.loop-p.invariant c.loop-p-test.true c.requires.fact_2.0 c.requires.fact_2.1
    c.apply_entry-y.ensures
