-- `read_through` searches in the matrix that the row is shown from.
use native.Mathlib.Omega.{arith}
use mathlib.Core.Path.{sym}
use Rattle.std.proofs.lemmas.Result.{err_from_is_err_and}
use Rattle.day_requests.proofs.Readiness.{read_ready}
use Rattle.day_folds.proofs.Shown.{vector_of_lem, shown_matrix, shown_rows}
use Rattle.day_calls.proofs.Folds.{read_refused, read_found}
use Rattle.day_calls.proofs.read_through.Goals as goal

pub returns-in_err-read_refusal : goal.returns-in_err-read_refusal
returns-in_err-read_refusal c =
    let p = err_from_is_err_and c.from_residual.result c.from_residual.ensures.1 in
    rw (p.1, p.2) (read_refused _ _ _ _ _ _ c.in_err-read_refusal.ensures)

pub shown-shown-requires : goal.shown-shown-requires
shown-shown-requires c = let r = read_ready _ _ _ _ _ (sym c.in_ok-read_refusal.ensures) in vector_of_lem r.pair _ r.row

pub entry_at-requires-clause-fact_1 : goal.entry_at-requires-clause-fact_1
entry_at-requires-clause-fact_1 c =
    let r = read_ready _ _ _ _ _ (sym c.in_ok-read_refusal.ensures) in
    rw c.shown-shown.ensures (shown_matrix r.pair c.args.i)

pub entry_at-requires-clause-fact_2 : goal.entry_at-requires-clause-fact_2
entry_at-requires-clause-fact_2 c =
    let r = read_ready _ _ _ _ _ (sym c.in_ok-read_refusal.ensures) in
    rw c.shown-shown.ensures (omega (arith, shown_rows r.pair c.args.i))

pub returns : goal.returns
returns c =
    rw (c.entry_at.ensures.fact_1, c.shown-shown.ensures)
    (read_found _ _ _ _ _ (sym c.in_ok-read_refusal.ensures))
