-- The value of a formula, whatever its slots hold: of a tree in the order of the text, and of a grouped tree, where each
-- step has its left side worked out first.
use Rattle.std.specs.Prelude.{ℕ}
use Rattle.formula_texts.specs.Trees.{Formula, Term, Factor, one_term, plus, one_factor, times, digit, bracketed}
use Rattle.formula_texts.specs.Grouped.{
  Sum,
  Product,
  Operand,
  first_term,
  and_term,
  first_factor,
  and_factor,
  place,
  group,
}

-- `slot` is what a slot holds, `add` and `multiply` are one step each
module _ {A : Type 0} (slot : ℕ → A) (add multiply : A → A → A) where
  unfoldable mutual
    pub sum_value : Sum → A
    sum_value (first_term p) = product_value p
    sum_value (and_term s p) = add (sum_value s) (product_value p)

    pub product_value : Product → A
    product_value (first_factor o) = operand_value o
    product_value (and_factor p o) = multiply (product_value p) (operand_value o)

    pub operand_value : Operand → A
    operand_value (place n) = slot n
    operand_value (group s) = sum_value s

  unfoldable mutual
    pub value : Formula → A
    value (one_term t) = term_value t
    value (plus t f) = value_onto f (term_value t)

    pub value_onto : Formula → A → A
    value_onto (one_term t) a = add a (term_value t)
    value_onto (plus t f) a = value_onto f (add a (term_value t))

    pub term_value : Term → A
    term_value (one_factor x) = factor_value x
    term_value (times x t) = term_value_onto t (factor_value x)

    pub term_value_onto : Term → A → A
    term_value_onto (one_factor x) a = multiply a (factor_value x)
    term_value_onto (times x t) a = term_value_onto t (multiply a (factor_value x))

    pub factor_value : Factor → A
    factor_value (digit n) = slot n
    factor_value (bracketed f) = value f
