-- `attempt` answers the lowest refusal, or writes the final C.
use mathlib.Core.Path.{sym}
use Rattle.std.proofs.lemmas.Result.{err_from_is_err_and}
use Rattle.answers.proofs.Numbers.{number_not_0}
use Rattle.requests.proofs.Refusals.{ready_of}
use Rattle.calls.proofs.Attempts.{attempted_input, attempted_full, attempted_done, size_fits}
use Rattle.calls.proofs.attempt.Goals as goal

pub returns-in_err-input_refusal : goal.returns-in_err-input_refusal
returns-in_err-input_refusal c =
    let p = err_from_is_err_and c.from_residual.result c.from_residual.ensures.1 in
    rw (p.1, p.2) (attempted_input _ _ _ _ _ _ _ _ _ c.in_err-input_refusal.ensures (number_not_0 _))

pub compute-requires : goal.compute-requires
compute-requires c =
    let h = ready_of _ _ _ _ _ _ _ _ (sym c.in_ok-input_refusal.ensures) in
    record { ready = h.ready; space = h.workspace }

pub returns-in_err-n : goal.returns-in_err-n
returns-in_err-n c =
    let r = c.from_residual-in_err-n in
    let p = err_from_is_err_and r.result r.ensures.1 in
    let h = c.in_err-n.ensures in
    rw (p.1, p.2, h.0) (attempted_full _ _ _ _ _ _ _ _ (sym c.in_ok-input_refusal.ensures) h.1)

pub commit-requires : goal.commit-requires
commit-requires c =
    let h = ready_of _ _ _ _ _ _ _ _ (sym c.in_ok-input_refusal.ensures) in
    let f = c.in_ok-n.ensures in
    let x = c.args in
    record {
      header = h.ready.inputs.output.header;
      few = f.1;
      written = size_fits x.call x.a.now x.b.now x.mask.now x.c.now x.is.now x.js.now _ f.0 c.compute.new.work f.2;
    }

pub returns : goal.returns
returns c =
    let f = c.in_ok-n.ensures in
    attempted_done _ _ _ _ _ _ _ _ (sym c.in_ok-input_refusal.ensures) _ _ _ _ f.0 f.1 f.2 c.commit.ensures
