-- `attempt` gives the lowest refusal, or writes the vector.
use native.Mathlib.Omega.{arith}
use mathlib.Core.Path.{sym}
use Rattle.std.proofs.lemmas.Result.{err_from_is_err_and}
use Rattle.key_requests.proofs.Refusals.{checked_of}
use Rattle.key_calls.proofs.Attempts.{attempted_input, attempted_done, size_fits, entries_few}
use Rattle.key_calls.proofs.attempt.Goals as goal

pub returns-in_err-input_refusal : goal.returns-in_err-input_refusal
returns-in_err-input_refusal c =
    let p = err_from_is_err_and c.from_residual.result c.from_residual.ensures.1 in
    rw (p.1, p.2) (attempted_input _ _ _ _ _ _ _ c.in_err-input_refusal.ensures)

pub door_vector-n-requires-clause-ready : goal.door_vector-n-requires-clause-ready
door_vector-n-requires-clause-ready c = (checked_of _ _ _ _ _ (sym c.in_ok-input_refusal.ensures)).ready

pub door_vector-n-requires-clause-workspace : goal.door_vector-n-requires-clause-workspace
door_vector-n-requires-clause-workspace c =
    let h = checked_of _ _ _ _ _ (sym c.in_ok-input_refusal.ensures) in omega arith

pub commit-requires-clause-few : goal.commit-requires-clause-few
commit-requires-clause-few c =
    entries_few _ _ _ _ _ _ c.door_vector-n.ensures (checked_of _ _ _ _ _ (sym c.in_ok-input_refusal.ensures)).ready

pub commit-requires-clause-size : goal.commit-requires-clause-size
commit-requires-clause-size c =
    size_fits c.args.allowance c.args.locks.now c.args.cabinets.now c.args.hand.now _ _ c.door_vector-n.ensures

pub returns : goal.returns
returns c =
    attempted_done _ _ _ _ _ _ (sym c.in_ok-input_refusal.ensures) _ _ _ _ c.door_vector-n.ensures c.commit.ensures
