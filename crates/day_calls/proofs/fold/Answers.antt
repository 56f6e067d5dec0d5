-- `fold` counts the entries, and writes the folded matrix if it fits.
use native.Mathlib.Omega.{arith}
use mathlib.Core.Path.{sym}
use Rattle.std.proofs.lemmas.Result.{err_from_is_err_and}
use Rattle.day_requests.proofs.Readiness.{pair_ready}
use Rattle.day_calls.proofs.Folds.{fold_refused, fold_many, fold_short, fold_done}
use Rattle.day_calls.proofs.fold.Goals as goal

pub returns-in_err-pair_refusal : goal.returns-in_err-pair_refusal
returns-in_err-pair_refusal c =
    let p = err_from_is_err_and c.from_residual.result c.from_residual.ensures.1 in
    rw (p.1, p.2) (fold_refused _ _ _ _ _ c.in_err-pair_refusal.ensures)

pub folded_count-n-requires : goal.folded_count-n-requires
folded_count-n-requires c = pair_ready _ _ _ (sym c.in_ok-pair_refusal.ensures)

pub returns-then-n : goal.returns-then-n
returns-then-n c =
    let e = c.folded_count-n.ensures in
    fold_many _ _ _ _ (sym c.in_ok-pair_refusal.ensures) (omega arith)

pub bounds-base-3 : goal.bounds-base-3
bounds-base-3 c = let m = (pair_ready _ _ _ (sym c.in_ok-pair_refusal.ensures)).base_valid in omega arith

pub returns-then-out-base : goal.returns-then-out-base
returns-then-out-base c =
    let e = c.folded_count-n.ensures in
    fold_short _ _ _ _ (sym c.in_ok-pair_refusal.ensures) (omega arith) (omega arith)

pub write_folded-requires-clause-pair : goal.write_folded-requires-clause-pair
write_folded-requires-clause-pair c = pair_ready _ _ _ (sym c.in_ok-pair_refusal.ensures)

pub returns : goal.returns
returns c =
    let e = c.folded_count-n.ensures in
    fold_done _ _ _ _ (sym c.in_ok-pair_refusal.ensures) (omega arith) (omega arith) _ _ e c.write_folded.ensures
