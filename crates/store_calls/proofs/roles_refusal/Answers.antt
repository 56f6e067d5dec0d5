-- `roles_refusal` gives 12 before 1 and 2, and these before 13.
use mathlib.Core.Path.{sym, ap, ◌∙◌}
use Rattle.std.proofs.lemmas.Result.{err_from_is_err_and}
use Rattle.answers.specs.Results.{code_of}
use Rattle.answers.proofs.Numbers.{number_not_0}
use Rattle.store_calls.proofs.Roles.{in_store}
use Rattle.store_calls.proofs.Refusals.{slot_refused, code_and, numbers_first}
use Rattle.store_calls.proofs.roles_refusal.Goals as goal

pub returns-in_err-slots_refusal : goal.returns-in_err-slots_refusal
returns-in_err-slots_refusal c =
    let p = err_from_is_err_and c.from_residual.result c.from_residual.ensures.1 in
    rw (p.1, p.2) (slot_refused _ _ _ _ c.in_err-slots_refusal.ensures (number_not_0 _))

pub vacancy_refusal-requires : goal.vacancy_refusal-requires
vacancy_refusal-requires c =
    record { store = c.requires; roles = in_store _ (sym c.in_ok-slots_refusal.ensures) }

pub returns : goal.returns
returns c =
    numbers_first _ _ _ (sym c.in_ok-slots_refusal.ensures) _ _ _ c.numbers_refusal.ensures c.vacancy_refusal.ensures
    (ap code_of c.and.ensures ∙ code_and _ _)
