-- The functions that read and work out a formula, together: each answer is of the value of the phrase that stands
-- there. The bytes left fall.
use Rattle.std.proofs.Common.{rules, refl, length, ◌∙◌, ◌≤◌, arith}
use Rattle.std.proofs.lemmas.Result.{err_from_is_err_and}
use Rattle.matrix.specs.Layout.{max_matrix_words}
use Rattle.formula_texts.proofs.Factors.{factor_past, too_deep, no_digit}
use Rattle.formula_evaluation.proofs.Chains.{
  terms,
  factors,
  whole_fails,
  whole_goes_on,
  nothing_follows,
  next_fails,
  step_fails,
  step_goes_on,
}
use Rattle.formula_evaluation.proofs.Standing.{
  back_length,
  adding,
  multiplying,
  operands,
  code_standing,
  stepped_standing,
}
use Rattle.formula_evaluation.proofs.Factors.{factor_missing, inner_fails, unclosed, closed, named}
use Rattle.formula_evaluation.proofs.Lending.{lent_on, held_worth}
use Rattle.formula_evaluation.proofs.+factor_formula_more_factors_more_terms_term.Goals as goal

pub factor-returns-in_default : goal.factor-returns-in_default
factor-returns-in_default t c =
    let a = c.args in
    factor_missing a.monoid a.op a.store.now a.text.now a.at a.allowance _
    (factor_past a.text.now a.at a.allowance (search rules))

pub factor-returns-then-allowance-eq0 : goal.factor-returns-then-allowance-eq0
factor-returns-then-allowance-eq0 t c =
    let a = c.args in
    let h = c.in-Some.ensures.lookup.3 in
    factor_missing a.monoid a.op a.store.now a.text.now a.at a.allowance _
    (too_deep a.text.now a.at a.allowance h.0 (omega (arith, h.1 0)) c.if-allowance-eq0.true)

pub factor-returns-in_err-p : goal.factor-returns-in_err-p
factor-returns-in_err-p t c =
    let a = c.args in
    let h = c.in-Some.ensures.lookup.3 in
    let p = err_from_is_err_and c.from_residual.result c.from_residual.ensures.1 in
    rw (p.1, p.2)
    (inner_fails a.monoid a.op a.store.now a.text.now a.at a.allowance h.0 (omega (arith, h.1 0)) _ _
    c.in_err-p.ensures)

pub factor-returns-then-stands : goal.factor-returns-then-stands
factor-returns-then-stands t c =
    let a = c.args in
    let h = c.in-Some.ensures.lookup.3 in
    closed a.monoid a.op a.store.now a.text.now a.at a.allowance h.0 (omega (arith, h.1 0)) _ _ c.in_ok-p.ensures
    c.if-stands.ensures

pub factor-returns-else-stands : goal.factor-returns-else-stands
factor-returns-else-stands t c =
    let a = c.args in
    let h = c.in-Some.ensures.lookup.3 in
    unclosed a.monoid a.op a.store.now a.text.now a.at a.allowance h.0 (omega (arith, h.1 0)) _ _ c.in_ok-p.ensures
    c.if-stands.ensures

pub factor-returns-then-not-contains : goal.factor-returns-then-not-contains
factor-returns-then-not-contains t c =
    let a = c.args in
    let h = c.in-Some.ensures.lookup.3 in
    let e = h.1 0 in
    factor_missing a.monoid a.op a.store.now a.text.now a.at a.allowance _
    (no_digit a.text.now a.at a.allowance h.0 (λ k. c.if-x-eq-OPEN.false (omega arith)) (λ l k. search rules))

pub factor-load-requires-clause-held : goal.factor-load-requires-clause-held
factor-load-requires-clause-held t c =
    let h = c.in-Some.ensures.lookup.3 in
    let e = h.1 0 in
    rw (c.from.ensures, e) (c.requires.held c.args.at h.0 (search rules) (search rules))

pub factor-returns : goal.factor-returns
factor-returns t c =
    let a = c.args in
    let h = c.in-Some.ensures.lookup.3 in
    let e = h.1 0 in
    let k = c.requires.held a.at h.0 (search rules) (search rules) in
    named a.monoid a.op a.store.now a.text.now a.at a.allowance h.0 (λ k. c.if-x-eq-OPEN.false (omega arith))
    (search rules) _ _ (held_worth a.store.now _ k) (rw (c.from.ensures, e) at c.load.ensures)

pub formula-returns-in_err-p : goal.formula-returns-in_err-p
formula-returns-in_err-p t c =
    let a = c.args in
    let p = err_from_is_err_and c.from_residual.result c.from_residual.ensures.1 in
    rw (p.1, p.2)
    (whole_fails (terms a.monoid a.op a.store.now) a.text.now a.at a.allowance _ _ _ c.in_err-p.ensures)

pub formula-returns : goal.formula-returns
formula-returns t c =
    let a = c.args in
    whole_goes_on (terms a.monoid a.op a.store.now) a.text.now a.at a.allowance _ _ c.more_terms.result _
    c.in_ok-p.ensures c.more_terms.ensures

pub term-returns-in_err-p : goal.term-returns-in_err-p
term-returns-in_err-p t c =
    let a = c.args in
    let p = err_from_is_err_and c.from_residual.result c.from_residual.ensures.1 in
    rw (p.1, p.2)
    (whole_fails (factors a.monoid a.op a.store.now) a.text.now a.at a.allowance _ _ _ c.in_err-p.ensures)

pub term-returns : goal.term-returns
term-returns t c =
    let a = c.args in
    whole_goes_on (factors a.monoid a.op a.store.now) a.text.now a.at a.allowance _ _ c.more_factors.result _
    c.in_ok-p.ensures c.more_factors.ensures

pub more_terms-returns-else-stands : goal.more_terms-returns-else-stands
more_terms-returns-else-stands t c =
    let a = c.args in
    nothing_follows (terms a.monoid a.op a.store.now) a.text.now a.at a.allowance a.stack.now c.requires.lent.place
    c.requires.some_grid c.if-stands.ensures

pub more_terms-returns-in_err-p : goal.more_terms-returns-in_err-p
more_terms-returns-in_err-p t c =
    let a = c.args in
    let i = c.if-stands.ensures in
    let p = err_from_is_err_and c.from_residual.result c.from_residual.ensures.1 in
    rw (p.1, p.2)
    (next_fails (terms a.monoid a.op a.store.now) a.text.now a.at a.allowance i.0 i.1 _ _ _ _ c.in_err-p.ensures)

pub more_terms-step-requires : goal.more_terms-step-requires
more_terms-step-requires t c =
    let a = c.args in
    let r = c.requires.lent.room in
    let k : max_matrix_words ≤ length a.stack.now = omega arith in
    rw c.monoid_op.ensures
    (operands (adding a.monoid) a.stack.now c.term.new.stack k c.requires.some_grid.1 c.in_ok-p.ensures.some_grid.1
    (omega (arith, back_length a.stack.now c.term.new.stack k c.term.auto.stack)))

pub more_terms-returns-in_err-step : goal.more_terms-returns-in_err-step
more_terms-returns-in_err-step t c =
    let a = c.args in
    let i = c.if-stands.ensures in
    let r = c.requires.lent.room in
    let k : max_matrix_words ≤ length a.stack.now = omega arith in
    let h = rw c.monoid_op.ensures at c.in_err-step.ensures in
    let p = err_from_is_err_and c.from_residual-in_err-step.result c.from_residual-in_err-step.ensures.1 in
    rw (p.1, p.2)
    (step_fails (terms a.monoid a.op a.store.now) a.text.now a.at a.allowance i.0 i.1 a.stack.now c.term.new.stack _
    c.in_ok-p.ensures _ _ (λ g g' s s'. code_standing (adding a.monoid) a.stack.now c.term.new.stack k s s' h))

pub more_terms-more_terms-requires : goal.more_terms-more_terms-requires
more_terms-more_terms-requires t c =
    let a = c.args in
    let r = c.requires.lent.room in
    let k : max_matrix_words ≤ length a.stack.now = omega arith in
    let l = c.in_ok-p.ensures.ahead in
    let h = rw c.monoid_op.ensures at c.in_ok-step.ensures in
    let g = stepped_standing (adding a.monoid) a.stack.now c.term.new.stack k c.requires.some_grid.1
    c.in_ok-p.ensures.some_grid.1 h refl in (
      omega (arith, c.if-stands.ensures.0, l.0, l.1),
      lent_on c.requires.lent _ _ l.1
          (c.step.auto.area ∙ back_length a.stack.now c.term.new.stack k c.term.auto.stack) (g.0, g.2),
    )

pub more_terms-returns-in_ok-step : goal.more_terms-returns-in_ok-step
more_terms-returns-in_ok-step t c =
    let a = c.args in
    let i = c.if-stands.ensures in
    let r = c.requires.lent.room in
    let k : max_matrix_words ≤ length a.stack.now = omega arith in
    let h = rw c.monoid_op.ensures at c.in_ok-step.ensures in
    step_goes_on (terms a.monoid a.op a.store.now) a.text.now a.at a.allowance i.0 i.1 a.stack.now c.term.new.stack _
    c.in_ok-p.ensures _ _ c.more_terms.result
    (λ g g' s s'. stepped_standing (adding a.monoid) a.stack.now c.term.new.stack k s s' h refl) c.more_terms.ensures

pub more_factors-returns-else-stands : goal.more_factors-returns-else-stands
more_factors-returns-else-stands t c =
    let a = c.args in
    nothing_follows (factors a.monoid a.op a.store.now) a.text.now a.at a.allowance a.stack.now c.requires.lent.place
    c.requires.some_grid c.if-stands.ensures

pub more_factors-returns-in_err-p : goal.more_factors-returns-in_err-p
more_factors-returns-in_err-p t c =
    let a = c.args in
    let i = c.if-stands.ensures in
    let p = err_from_is_err_and c.from_residual.result c.from_residual.ensures.1 in
    rw (p.1, p.2)
    (next_fails (factors a.monoid a.op a.store.now) a.text.now a.at a.allowance i.0 i.1 _ _ _ _ c.in_err-p.ensures)

pub more_factors-step-requires : goal.more_factors-step-requires
more_factors-step-requires t c =
    let a = c.args in
    let r = c.requires.lent.room in
    let k : max_matrix_words ≤ length a.stack.now = omega arith in
    operands (multiplying a.monoid a.op) a.stack.now c.factor.new.stack k c.requires.some_grid.1
    c.in_ok-p.ensures.some_grid.1
    (omega (arith, back_length a.stack.now c.factor.new.stack k c.factor.auto.stack))

pub more_factors-returns-in_err-step : goal.more_factors-returns-in_err-step
more_factors-returns-in_err-step t c =
    let a = c.args in
    let i = c.if-stands.ensures in
    let r = c.requires.lent.room in
    let k : max_matrix_words ≤ length a.stack.now = omega arith in
    let p = err_from_is_err_and c.from_residual-in_err-step.result c.from_residual-in_err-step.ensures.1 in
    rw (p.1, p.2)
    (step_fails (factors a.monoid a.op a.store.now) a.text.now a.at a.allowance i.0 i.1 a.stack.now c.factor.new.stack _
    c.in_ok-p.ensures _ _ (λ g g' s s'. code_standing (multiplying a.monoid a.op) a.stack.now c.factor.new.stack k s
    s' c.in_err-step.ensures))

pub more_factors-more_factors-requires : goal.more_factors-more_factors-requires
more_factors-more_factors-requires t c =
    let a = c.args in
    let r = c.requires.lent.room in
    let k : max_matrix_words ≤ length a.stack.now = omega arith in
    let l = c.in_ok-p.ensures.ahead in
    let g = stepped_standing (multiplying a.monoid a.op) a.stack.now c.factor.new.stack k c.requires.some_grid.1
    c.in_ok-p.ensures.some_grid.1 c.in_ok-step.ensures refl in (
      omega (arith, c.if-stands.ensures.0, l.0, l.1),
      lent_on c.requires.lent _ _ l.1
          (c.step.auto.area ∙ back_length a.stack.now c.factor.new.stack k c.factor.auto.stack) (g.0, g.2),
    )

pub more_factors-returns-in_ok-step : goal.more_factors-returns-in_ok-step
more_factors-returns-in_ok-step t c =
    let a = c.args in
    let i = c.if-stands.ensures in
    let r = c.requires.lent.room in
    let k : max_matrix_words ≤ length a.stack.now = omega arith in
    step_goes_on (factors a.monoid a.op a.store.now) a.text.now a.at a.allowance i.0 i.1 a.stack.now
    c.factor.new.stack _
    c.in_ok-p.ensures _ _ c.more_factors.result
    (λ g g' s s'. stepped_standing (multiplying a.monoid a.op) a.stack.now c.factor.new.stack k s s'
    c.in_ok-step.ensures refl) c.more_factors.ensures
