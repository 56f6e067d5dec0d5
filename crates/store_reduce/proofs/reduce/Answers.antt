-- `reduce` answers what the model does.
use mathlib.Core.Path.{sym, ap, ◌∙◌}
use Rattle.std.proofs.lemmas.Result.{err_from_is_err_and}
use Rattle.model.specs.Effects.{totalled}
use Rattle.store_cells.proofs.Checks.{unchecked, checked}
use Rattle.store_reduce.proofs.Answers.{total_no_store, total_no_slot, total_no_monoid, total_reached}
use Rattle.store_reduce.proofs.reduce.Goals as goal

pub returns-in_err-check : goal.returns-in_err-check
returns-in_err-check c =
    let p = err_from_is_err_and c.from_residual.result c.from_residual.ensures.1 in
    let u = unchecked _ c.in_err-check.ensures in
    rw (p.1, p.2, u.refusal) (total_no_store _ _ _ u.invalid)

pub returns-then-slot-ge-SLOTS : goal.returns-then-slot-ge-SLOTS
returns-then-slot-ge-SLOTS c = total_no_slot _ _ _ (checked _ c.in_ok-check.ensures).valid c.if-slot-ge-SLOTS.true

pub slot_total-requires : goal.slot_total-requires
slot_total-requires c =
    record { store = (checked _ c.in_ok-check.ensures).store; slot = c.if-slot-ge-SLOTS.false }

pub returns-in-Some : goal.returns-in-Some
returns-in-Some c =
    ap totalled c.slot_total.ensures
    ∙ total_reached _ _ _ (checked _ c.in_ok-check.ensures).valid c.if-slot-ge-SLOTS.false _
    (sym c.monoid_code.ensures ∙ c.in-Some.is)

pub returns-in-None : goal.returns-in-None
returns-in-None c =
    total_no_monoid _ _ _ (checked _ c.in_ok-check.ensures).valid c.if-slot-ge-SLOTS.false
    (sym c.monoid_code.ensures ∙ c.in-None.is)
