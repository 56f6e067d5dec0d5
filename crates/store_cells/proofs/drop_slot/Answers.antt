-- `drop_slot` leaves a slot without words.
use native.Mathlib.Omega.{arith}
use mathlib.Core.Path.{◌∙◌}
use Rattle.std.proofs.lemmas.Result.{err_from_is_err_and}
use Rattle.model.specs.Calls.{effect}
use Rattle.store_encoding.proofs.Performed.{performed_no_store}
use Rattle.store_cells.proofs.Checks.{unchecked, checked}
use Rattle.store_cells.proofs.Outcomes.{none_resized, drop_refused, drop_performed}
use Rattle.store_cells.proofs.drop_slot.Goals as goal

pub returns-in_err-end : goal.returns-in_err-end
unfolding effect
returns-in_err-end c =
    let p = err_from_is_err_and c.from_residual.result c.from_residual.ensures.1 in
    let u = unchecked _ c.in_err-end.ensures in
    rw (p.1, p.2, u.refusal) (performed_no_store _ _ u.invalid)

pub returns-then-slot-ge-SLOTS : goal.returns-then-slot-ge-SLOTS
returns-then-slot-ge-SLOTS c = drop_refused (checked _ c.in_ok-end.ensures).valid (omega arith)

pub resize-requires : goal.resize-requires
resize-requires c =
    let h = checked _ c.in_ok-end.ensures in
    let e = h.ends in
    let w = h.store.sections.within in
    record { sections = h.store.sections; most = h.store.most; slot = omega arith; ends = e; room = omega arith }

pub returns : goal.returns
returns c =
    let p = c.args in
    drop_performed (checked _ c.in_ok-end.ensures).valid _ (omega arith)
    (c.resize.ensures ∙ none_resized p.store.now p.slot)
