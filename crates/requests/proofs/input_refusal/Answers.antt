-- `input_refusal` is `input_refusal`: the numbers, the matrices, their agreement.
use mathlib.Core.Path.{sym, ◌∙◌}
use Rattle.std.proofs.lemmas.Result.{err_from_is_err_and}
use Rattle.answers.proofs.Numbers.{number_not_0}
use Rattle.requests.proofs.Refusals.{valid_of, number_refused, matrix_refused, agreement_refused}
use Rattle.requests.proofs.input_refusal.Goals as goal

pub returns-in_err-numbers_refusal : goal.returns-in_err-numbers_refusal
returns-in_err-numbers_refusal c =
    let p = err_from_is_err_and c.from_residual.result c.from_residual.ensures.1 in
    rw (p.1, p.2) (number_refused _ _ _ _ _ _ _ _ _ c.in_err-numbers_refusal.ensures (number_not_0 _))

pub returns-in_err-matrices_refusal : goal.returns-in_err-matrices_refusal
returns-in_err-matrices_refusal c =
    let r = c.from_residual-in_err-matrices_refusal in
    let p = err_from_is_err_and r.result r.ensures.1 in
    rw (p.1, p.2) (matrix_refused _ _ _ _ _ _ _ _ (sym c.in_ok-numbers_refusal.ensures) _
    c.in_err-matrices_refusal.ensures (number_not_0 _))

pub agreement_refusal-requires : goal.agreement_refusal-requires
agreement_refusal-requires c = valid_of _ _ _ _ _ (sym c.in_ok-matrices_refusal.ensures)

pub returns : goal.returns
returns c =
    c.agreement_refusal.ensures
    ∙ agreement_refused _ _ _ _ _ _ _ _ (sym c.in_ok-numbers_refusal.ensures) (sym c.in_ok-matrices_refusal.ensures)
