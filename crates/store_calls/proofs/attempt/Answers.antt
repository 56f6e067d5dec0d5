-- `attempt` answers the first refusal that applies, or puts the final C into its slot.
use mathlib.Core.Path.{sym}
use lib.ListN.{length}
use Rattle.std.proofs.lemmas.Result.{err_from_is_err_and}
use Rattle.answers.proofs.Numbers.{number_not_0}
use Rattle.model.specs.Calls.{Operate}
use Rattle.store_calls.specs.Attempts.{asked}
use Rattle.store_calls.proofs.Refusals.{roles_first, holding_of}
use Rattle.store_calls.proofs.Operations.{no_store, store_found, operated_no_store, operated_refused, operated_evaluated, operated_done, size_fits}
use Rattle.store_calls.proofs.attempt.Goals as goal

pub returns-in_err-end : goal.returns-in_err-end
returns-in_err-end c =
    let p = err_from_is_err_and c.from_residual.result c.from_residual.ensures.1 in
    let x = c.args in
    let h = no_store x.store.now _ c.in_err-end.ensures in
    rw (p.1, p.2, h.1) (operated_no_store _ (asked x.call x.roles x.is.now x.js.now (length x.work.now)) h.0)

pub roles_refusal-requires : goal.roles_refusal-requires
roles_refusal-requires c = (store_found _ _ c.in_ok-end.ensures).store

pub returns-in_err-roles_refusal : goal.returns-in_err-roles_refusal
returns-in_err-roles_refusal c =
    let r = c.from_residual-in_err-roles_refusal in
    let p = err_from_is_err_and r.result r.ensures.1 in
    let x = c.args in
    let o = asked x.call x.roles x.is.now x.js.now (length x.work.now) in
    let f = store_found _ _ c.in_ok-end.ensures in
    rw (p.1, p.2) (operated_refused _ o f.valid _
    (roles_first _ o _ _ c.in_err-roles_refusal.ensures (number_not_0 _)) (number_not_0 _))

pub evaluate-requires : goal.evaluate-requires
evaluate-requires c =
    let f = store_found _ _ c.in_ok-end.ensures in
    record { store = f.store; holding = holding_of _ _ _ f.store (sym c.in_ok-roles_refusal.ensures) }

pub returns-in_err-n : goal.returns-in_err-n
returns-in_err-n c =
    let r = c.from_residual-in_err-n in
    let p = err_from_is_err_and r.result r.ensures.1 in
    let x = c.args in
    let f = store_found _ _ c.in_ok-end.ensures in
    rw (p.1, p.2) (operated_evaluated _ (asked x.call x.roles x.is.now x.js.now (length x.work.now)) f.valid
    (sym c.in_ok-roles_refusal.ensures) _ c.in_err-n.ensures)

pub commit-requires : goal.commit-requires
commit-requires c =
    let x = c.args in
    let f = store_found _ _ c.in_ok-end.ensures in
    let z = sym c.in_ok-roles_refusal.ensures in
    let h = holding_of _ _ _ f.store z in
    let d = c.in_ok-n.ensures in
    record {
      store = f.store;
      slot = h.slots.output;
      held = h.output;
      ends = f.ends;
      few = d.few;
      there = size_fits _ (asked x.call x.roles x.is.now x.js.now (length x.work.now)) f.valid z h _ _ d;
    }

pub returns : goal.returns
returns c =
    let x = c.args in
    let f = store_found _ _ c.in_ok-end.ensures in
    let z = sym c.in_ok-roles_refusal.ensures in
    operated_done _ (asked x.call x.roles x.is.now x.js.now (length x.work.now)) f.valid z (holding_of _ _ _ f.store z)
    _ _ c.in_ok-n.ensures _ _ c.commit.ensures
