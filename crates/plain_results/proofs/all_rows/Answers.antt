-- `all_rows` leaves the rows of T one after another.
use native.Mathlib.Omega.{arith}
use mathlib.Core.Path.{refl, ◌∙◌}
use lib.ListN.{length-set}
use Rattle.plain_results.proofs.Rows.{back_length, passed_none, columns_room, values_room, row_needs_lem, counter_fits, sum_fits, passed_full, passed_next, passed_skip, passed_all}
use Rattle.plain_results.proofs.all_rows.Goals as goal

pub loop-i-init : goal.loop-i-init
loop-i-init c = (
  passed_skip _ _ _ _ _ _ (passed_none _ _ _ _ _ _ c.requires.inputs c.requires.space c.row_count-total.ensures) c.skip_rows-i.ensures,
  (refl, refl, refl),
)

pub returns-then-n : goal.returns-then-n
returns-then-n c =
    (refl, passed_full _ _ _ _ _ _ c.loop-i.invariant.0 c.result_row-n.ensures c.loop-i-test.true c.if-n.true)

pub loop-i-preserved : goal.loop-i-preserved
loop-i-preserved c =
    let v = c.loop-i.invariant in
    let k = c.result_row-n.auto in
    let m = passed_next _ _ _ _ _ _ v.0 c.result_row-n.ensures c.loop-i-test.true c.if-n.false k.oc
    k.ov in (
      passed_skip _ _ _ _ _ _ m c.skip_rows-i-in-loop-i.ensures,
      (
        c.skip_rows-i-in-loop-i.ensures.size
            ∙ length-set c.loop-i.starts c.loop-i.i c.loop-i.n ∙ v.1.0,
        back_length c.loop-i.n c.loop-i.oc c.result_row-n.new.oc (columns_room _ _ _ _ _ _ v.0) k.oc ∙ v.1.1,
        back_length c.loop-i.n c.loop-i.ov c.result_row-n.new.ov (values_room _ _ _ _ _ _ v.0) k.ov ∙ v.1.2,
      ),
    )
