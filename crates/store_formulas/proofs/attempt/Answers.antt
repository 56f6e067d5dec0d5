-- `attempt` answers the first refusal that applies, or puts the value into the target.
use Rattle.std.proofs.Common.{refl, sym, length}
use Rattle.std.proofs.lemmas.Result.{err_from_is_err_and}
use Rattle.answers.proofs.Numbers.{number_not_0}
use Rattle.store_cells.proofs.Checks.{unchecked, checked}
use Rattle.store_formulas.specs.Attempts.{asked}
use Rattle.store_formulas.proofs.Formulas.{
  formula_no_store,
  formula_early,
  none,
  evaluable,
  formula_failed,
  formula_done,
}
use Rattle.store_formulas.proofs.attempt.Goals as goal

pub returns-in_err-end : goal.returns-in_err-end
returns-in_err-end c =
    let a = c.args in
    let x = asked a.target a.monoid a.op a.text.now (length a.stack.now) in
    let p = err_from_is_err_and c.from_residual.result c.from_residual.ensures.1 in
    let u = unchecked a.store.now c.in_err-end.ensures in
    rw (p.1, p.2, u.refusal) (formula_no_store a.store.now x u.invalid)

pub early_refusal-requires : goal.early_refusal-requires
early_refusal-requires c = (checked _ c.in_ok-end.ensures).store

pub returns-in_err-early_refusal : goal.returns-in_err-early_refusal
returns-in_err-early_refusal c =
    let a = c.args in
    let x = asked a.target a.monoid a.op a.text.now (length a.stack.now) in
    let p = err_from_is_err_and c.from_residual-in_err-early_refusal.result
    c.from_residual-in_err-early_refusal.ensures.1 in
    let f = checked a.store.now c.in_ok-end.ensures in
    rw (p.1, p.2) (formula_early a.store.now x f.valid _ c.in_err-early_refusal.ensures (number_not_0 _))

pub evaluate-requires : goal.evaluate-requires
evaluate-requires c =
    let a = c.args in
    let x = asked a.target a.monoid a.op a.text.now (length a.stack.now) in
    let f = checked a.store.now c.in_ok-end.ensures in
    evaluable a.store.now x f.valid (sym c.in_ok-early_refusal.ensures) a.stack.now refl

pub returns-in_err-evaluate : goal.returns-in_err-evaluate
returns-in_err-evaluate c =
    let a = c.args in
    let x = asked a.target a.monoid a.op a.text.now (length a.stack.now) in
    let p = err_from_is_err_and c.from_residual-in_err-evaluate.result c.from_residual-in_err-evaluate.ensures.1 in
    let f = checked a.store.now c.in_ok-end.ensures in
    rw (p.1, p.2)
    (formula_failed a.store.now x f.valid (sym c.in_ok-early_refusal.ensures) _ c.in_err-evaluate.ensures
    (number_not_0 _))

pub commit-requires : goal.commit-requires
commit-requires c =
    let a = c.args in
    let x = asked a.target a.monoid a.op a.text.now (length a.stack.now) in
    let f = checked a.store.now c.in_ok-end.ensures in
    let d = c.in_ok-evaluate.ensures in
    record {
      store = f.store;
      slot = (none a.store.now x f.valid (sym c.in_ok-early_refusal.ensures)).slot;
      ends = f.ends;
      some_grid = (d.0, d.2);
    }

pub returns : goal.returns
returns c =
    let a = c.args in
    let x = asked a.target a.monoid a.op a.text.now (length a.stack.now) in
    let f = checked a.store.now c.in_ok-end.ensures in
    let d = c.in_ok-evaluate.ensures in
    formula_done a.store.now x f.valid (sym c.in_ok-early_refusal.ensures) d.0 d.1 _ d.2 _ _ c.commit.ensures
