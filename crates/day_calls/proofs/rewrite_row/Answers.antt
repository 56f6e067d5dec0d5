-- `rewrite_row` asks for 4 to 8 before it rewrites.
use Rattle.std.proofs.lemmas.Result.{err_from_is_err_and}
use Rattle.day_calls.proofs.Rewrites.{rewrite_refused}
use Rattle.day_calls.proofs.rewrite_row.Goals as goal

pub returns-in_err-rewrite_refusal : goal.returns-in_err-rewrite_refusal
returns-in_err-rewrite_refusal c =
    let p = err_from_is_err_and c.from_residual.result c.from_residual.ensures.1 in
    rw (p.1, p.2) (rewrite_refused _ _ _ _ _ c.in_err-rewrite_refusal.ensures)
