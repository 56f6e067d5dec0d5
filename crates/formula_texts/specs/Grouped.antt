-- Formulas grouped "from left to right": what is added or multiplied next stands on the right.
use Rattle.std.specs.Prelude.{List, [], ◌∷◌, ◌++◌, ℕ, ◌+◌}
use Rattle.formula_texts.specs.Trees.{
  Formula,
  Term,
  Factor,
  one_term,
  plus,
  one_factor,
  times,
  digit,
  bracketed,
}

mutual
  pub data Sum : Type 0 where
    first_term : Product → Sum
    and_term : Sum → Product → Sum

  pub data Product : Type 0 where
    first_factor : Operand → Product
    and_factor : Product → Operand → Product

  pub data Operand : Type 0 where
    place : ℕ → Operand
    group : Sum → Operand

unfoldable mutual
  pub sum_text : Sum → List ℕ
  sum_text (first_term p) = product_text p
  sum_text (and_term s p) = sum_text s ++ 43 ∷ product_text p

  pub product_text : Product → List ℕ
  product_text (first_factor o) = operand_text o
  product_text (and_factor p o) = product_text p ++ 42 ∷ operand_text o

  pub operand_text : Operand → List ℕ
  operand_text (place n) = (48 + n) ∷ []
  operand_text (group s) = 40 ∷ sum_text s ++ 41 ∷ []

-- the grouping of a tree; `onto` is what stands to the left of it
unfoldable mutual
  pub grouped : Formula → Sum
  grouped (one_term t) = first_term (term_grouped t)
  grouped (plus t f) = grouped_onto f (first_term (term_grouped t))

  pub grouped_onto : Formula → Sum → Sum
  grouped_onto (one_term t) s = and_term s (term_grouped t)
  grouped_onto (plus t f) s = grouped_onto f (and_term s (term_grouped t))

  pub term_grouped : Term → Product
  term_grouped (one_factor x) = first_factor (factor_grouped x)
  term_grouped (times x t) = term_grouped_onto t (first_factor (factor_grouped x))

  pub term_grouped_onto : Term → Product → Product
  term_grouped_onto (one_factor x) p = and_factor p (factor_grouped x)
  term_grouped_onto (times x t) p = term_grouped_onto t (and_factor p (factor_grouped x))

  pub factor_grouped : Factor → Operand
  factor_grouped (digit n) = place n
  factor_grouped (bracketed f) = group (grouped f)
