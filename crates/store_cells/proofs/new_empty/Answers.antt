-- `new_empty` lays an empty matrix where nothing refuses it.
use mathlib.Core.Path.{sym}
use Rattle.std.proofs.lemmas.Result.{err_from_is_err_and}
use Rattle.answers.proofs.Numbers.{number_not_0}
use Rattle.model.specs.Calls.{effect}
use Rattle.store_encoding.proofs.Performed.{performed_no_store}
use Rattle.store_cells.proofs.Checks.{unchecked, checked}
use Rattle.store_cells.proofs.Shapes.{layable, lay_refused, lay_no_room, lay_performed}
use Rattle.store_cells.proofs.new_empty.Goals as goal

pub returns-in_err-end : goal.returns-in_err-end
unfolding effect
returns-in_err-end c =
    let p = err_from_is_err_and c.from_residual.result c.from_residual.ensures.1 in
    let u = unchecked _ c.in_err-end.ensures in
    rw (p.1, p.2, u.refusal) (performed_no_store _ _ u.invalid)

pub returns-in_err-shape_refusal : goal.returns-in_err-shape_refusal
returns-in_err-shape_refusal c =
    let r = c.from_residual-in_err-shape_refusal in
    let p = err_from_is_err_and r.result r.ensures.1 in
    rw (p.1, p.2)
    (lay_refused _ _ _ _ (checked _ c.in_ok-end.ensures).valid _ c.in_err-shape_refusal.ensures (number_not_0 _))

pub lay-requires : goal.lay-requires
lay-requires c = layable _ _ _ _ _ (checked _ c.in_ok-end.ensures) (sym c.in_ok-shape_refusal.ensures)

pub returns-then-lay : goal.returns-then-lay
returns-then-lay c =
    lay_performed _ _ _ _ (checked _ c.in_ok-end.ensures) (sym c.in_ok-shape_refusal.ensures) c.if-lay.true c.lay.ensures

pub returns-else-lay : goal.returns-else-lay
returns-else-lay c =
    lay_no_room _ _ _ _ (checked _ c.in_ok-end.ensures) (sym c.in_ok-shape_refusal.ensures) c.if-lay.false c.lay.ensures
