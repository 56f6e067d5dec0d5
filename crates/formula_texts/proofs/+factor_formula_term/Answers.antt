-- The functions that read a text, together: each answer is where the phrase ends that stands there.
use Rattle.std.proofs.Common.{rules, arith}
use Rattle.formula_texts.proofs.Joined.{terms, factors, no_first, first_alone, first_joined}
use Rattle.formula_texts.proofs.Factors.{factor_past, too_deep, no_inner, unclosed, closed, no_digit, one_digit}
use Rattle.formula_texts.proofs.+factor_formula_term.Goals as goal

pub factor-returns-in_err-x : goal.factor-returns-in_err-x
factor-returns-in_err-x t c =
    rw c.from_residual.ensures (factor_past c.args.text.now c.args.at c.args.allowance c.in_err-x.ensures.lookup.3)

pub factor-returns-then-allowance-eq0 : goal.factor-returns-then-allowance-eq0
factor-returns-then-allowance-eq0 t c =
    let h = c.in_ok-x.ensures.lookup.3 in
    too_deep c.args.text.now c.args.at c.args.allowance h.0 (omega (arith, h.1 0)) c.if-allowance-eq0.true

pub factor-returns-in_err-p : goal.factor-returns-in_err-p
factor-returns-in_err-p t c =
    let h = c.in_ok-x.ensures.lookup.3 in
    rw c.from_residual-in_err-p.ensures
    (no_inner c.args.text.now c.args.at c.args.allowance h.0 (omega (arith, h.1 0)) c.in_err-p.ensures)

pub factor-returns-then-stands : goal.factor-returns-then-stands
factor-returns-then-stands t c =
    let h = c.in_ok-x.ensures.lookup.3 in
    closed c.args.text.now c.args.at c.args.allowance h.0 (omega (arith, h.1 0)) _ c.in_ok-p.ensures
    c.if-allowance-eq0.false
    c.if-stands.ensures

pub factor-returns-else-stands : goal.factor-returns-else-stands
factor-returns-else-stands t c =
    let h = c.in_ok-x.ensures.lookup.3 in
    unclosed c.args.text.now c.args.at c.args.allowance h.0 (omega (arith, h.1 0)) _ c.in_ok-p.ensures
    c.if-stands.ensures

pub factor-returns-then-contains : goal.factor-returns-then-contains
factor-returns-then-contains t c =
    let h = c.in_ok-x.ensures.lookup.3 in
    let e = h.1 0 in
    one_digit c.args.text.now c.args.at c.args.allowance h.0 (λ k. c.if-x-eq-OPEN.false (omega arith)) (search rules)
    (search rules)

pub factor-returns-else-contains : goal.factor-returns-else-contains
factor-returns-else-contains t c =
    let h = c.in_ok-x.ensures.lookup.3 in
    let e = h.1 0 in
    no_digit c.args.text.now c.args.at c.args.allowance h.0 (λ k. c.if-x-eq-OPEN.false (omega arith))
    (λ l k. search rules)

pub formula-returns-in_err-p : goal.formula-returns-in_err-p
formula-returns-in_err-p t c =
    rw c.from_residual.ensures (no_first terms c.args.text.now c.args.at c.args.allowance c.in_err-p.ensures)

pub formula-returns-then-stands : goal.formula-returns-then-stands
formula-returns-then-stands t c =
    first_joined terms c.args.text.now c.args.at c.args.allowance _ c.in_ok-p.ensures c.formula.result
    c.if-stands.ensures
    c.formula.ensures

pub formula-returns-else-stands : goal.formula-returns-else-stands
formula-returns-else-stands t c =
    first_alone terms c.args.text.now c.args.at c.args.allowance _ c.in_ok-p.ensures c.if-stands.ensures

pub term-returns-in_err-p : goal.term-returns-in_err-p
term-returns-in_err-p t c =
    rw c.from_residual.ensures (no_first factors c.args.text.now c.args.at c.args.allowance c.in_err-p.ensures)

pub term-returns-then-stands : goal.term-returns-then-stands
term-returns-then-stands t c =
    first_joined factors c.args.text.now c.args.at c.args.allowance _ c.in_ok-p.ensures c.term.result
    c.if-stands.ensures
    c.term.ensures

pub term-returns-else-stands : goal.term-returns-else-stands
term-returns-else-stands t c =
    first_alone factors c.args.text.now c.args.at c.args.allowance _ c.in_ok-p.ensures c.if-stands.ensures
