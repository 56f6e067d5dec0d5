-- `evaluate` lends the words of the slots to the tests and to the working part.
use native.Mathlib.Omega.{arith}
use mathlib.Core.Path.{sym, ap, ◌∙◌}
use lib.ListN.{length}
use Rattle.grid.specs.Revision.{next_revision}
use Rattle.std.proofs.lemmas.Result.{err_from_is_err_and}
use Rattle.answers.proofs.Numbers.{number_not_0}
use Rattle.requests.proofs.Refusals.{checked_of}
use Rattle.store_calls.specs.Attempts.{asked}
use Rattle.store_calls.proofs.Evaluations.{lent, all_valid, evaluated_refused, evaluated_full, evaluated_done}
use Rattle.store_calls.proofs.evaluate.Goals as goal

pub agreement_refusal-requires : goal.agreement_refusal-requires
agreement_refusal-requires c = all_valid _ _ _ _ _ _ _ c.requires.holding
    (lent _ _ _ _ _ _ c.contents-a.ensures.words c.contents-b.ensures.words c.contents-mask.ensures.words
    c.contents-c.ensures.words)

pub returns-in_err-agreement_refusal : goal.returns-in_err-agreement_refusal
returns-in_err-agreement_refusal c =
    let p = err_from_is_err_and c.from_residual.result c.from_residual.ensures.1 in
    let x = c.args in
    rw (p.1, p.2) (evaluated_refused _ (asked x.call x.roles x.is.now x.js.now (length x.work.now)) _ _ _ _
    c.requires.holding
    (lent _ _ _ _ _ _ c.contents-a.ensures.words c.contents-b.ensures.words c.contents-mask.ensures.words
    c.contents-c.ensures.words) _ c.in_err-agreement_refusal.ensures (number_not_0 _))

pub compute-requires : goal.compute-requires
compute-requires c =
    let x = c.args in
    let v = all_valid x.call _ _ _ _ _ _ c.requires.holding
    (lent _ _ _ _ _ _ c.contents-a.ensures.words c.contents-b.ensures.words c.contents-mask.ensures.words
    c.contents-c.ensures.words) in
    let h = checked_of _ _ _ _ _ x.is.now x.js.now _ v (sym c.in_ok-agreement_refusal.ensures) in
    record { ready = h.ready; space = h.workspace }

pub returns-in_err-n : goal.returns-in_err-n
returns-in_err-n c =
    let r = c.from_residual-in_err-n in
    let p = err_from_is_err_and r.result r.ensures.1 in
    let h = c.in_err-n.ensures in
    let x = c.args in
    rw (p.1, p.2, h.0) (evaluated_full _ (asked x.call x.roles x.is.now x.js.now (length x.work.now)) _ _ _ _
    c.requires.holding
    (lent _ _ _ _ _ _ c.contents-a.ensures.words c.contents-b.ensures.words c.contents-mask.ensures.words
    c.contents-c.ensures.words) (sym c.in_ok-agreement_refusal.ensures) h.1)

pub set_revision-requires : goal.set_revision-requires
set_revision-requires c =
    let x = c.args in
    let v = all_valid x.call _ _ _ _ _ _ c.requires.holding
    (lent _ _ _ _ _ _ c.contents-a.ensures.words c.contents-b.ensures.words c.contents-mask.ensures.words
    c.contents-c.ensures.words) in
    let h = (checked_of _ _ _ _ _ x.is.now x.js.now _ v (sym c.in_ok-agreement_refusal.ensures)).workspace in
    omega (arith, c.compute.auto.work)

pub returns : goal.returns
returns c =
    let f = c.in_ok-n.ensures in
    let x = c.args in
    evaluated_done _ (asked x.call x.roles x.is.now x.js.now (length x.work.now)) _ _ _ _ c.requires.holding
    (lent _ _ _ _ _ _ c.contents-a.ensures.words c.contents-b.ensures.words c.contents-mask.ensures.words
    c.contents-c.ensures.words) (sym c.in_ok-agreement_refusal.ensures) _ _ _ _ f.0 f.1 f.2
    c.set_revision.ensures (c.next_revision.ensures ∙ ap next_revision c.revision.ensures)
