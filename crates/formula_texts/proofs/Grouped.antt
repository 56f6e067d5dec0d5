-- Grouping from left to right keeps the text and the value, and every grouped tree is the grouping of one tree: so a
-- text has one grouped tree too.
use mathlib.Core.Path.{◌≡◌, refl, sym, ap, ◌∙◌}
use mathlib.Core.List.{List, [], ◌∷◌, ◌++◌, append_assoc}
use Prim.Native.Nat.{ℕ}
use Rattle.formula_texts.specs.Trees.{
  Formula,
  Term,
  Factor,
  one_term,
  plus,
  one_factor,
  times,
  digit,
  bracketed,
  text,
  term_text,
  factor_text,
}
use Rattle.formula_texts.specs.Grouped.{
  Sum,
  Product,
  Operand,
  first_term,
  and_term,
  first_factor,
  and_factor,
  place,
  group,
  sum_text,
  product_text,
  operand_text,
  grouped,
  grouped_onto,
  term_grouped,
  term_grouped_onto,
  factor_grouped,
}
use Rattle.formula_texts.specs.Values.{
  sum_value,
  product_value,
  operand_value,
  value,
  value_onto,
  term_value,
  term_value_onto,
  factor_value,
}
use Rattle.formula_texts.proofs.Once.{one_reading}

-- ---- grouping keeps the text
mutual
  unfolding text sum_text grouped

  pub grouped_text : (f : Formula) → sum_text (grouped f) ≡ text f
  grouped_text (one_term t) = term_grouped_text t
  grouped_text (plus t f) =
      onto_text f (first_term (term_grouped t)) ∙ ap (λ (x : List ℕ). x ++ 43 ∷ text f) (term_grouped_text t)

  onto_text : (f : Formula) (s : Sum) → sum_text (grouped_onto f s) ≡ sum_text s ++ 43 ∷ text f
  onto_text (one_term t) s = ap (λ (x : List ℕ). sum_text s ++ 43 ∷ x) (term_grouped_text t)
  onto_text (plus t f) s =
      onto_text f (and_term s (term_grouped t))
      ∙ append_assoc (sum_text s) (43 ∷ product_text (term_grouped t)) (43 ∷ text f)
      ∙ ap (λ (x : List ℕ). sum_text s ++ 43 ∷ (x ++ 43 ∷ text f)) (term_grouped_text t)

  term_grouped_text : (t : Term) → product_text (term_grouped t) ≡ term_text t
  term_grouped_text (one_factor x) = factor_grouped_text x
  term_grouped_text (times x t) =
      term_onto_text t (first_factor (factor_grouped x))
      ∙ ap (λ (y : List ℕ). y ++ 42 ∷ term_text t) (factor_grouped_text x)

  term_onto_text : (t : Term) (p : Product)
      → product_text (term_grouped_onto t p) ≡ product_text p ++ 42 ∷ term_text t
  term_onto_text (one_factor x) p = ap (λ (y : List ℕ). product_text p ++ 42 ∷ y) (factor_grouped_text x)
  term_onto_text (times x t) p =
      term_onto_text t (and_factor p (factor_grouped x))
      ∙ append_assoc (product_text p) (42 ∷ operand_text (factor_grouped x)) (42 ∷ term_text t)
      ∙ ap (λ (y : List ℕ). product_text p ++ 42 ∷ (y ++ 42 ∷ term_text t)) (factor_grouped_text x)

  factor_grouped_text : (x : Factor) → operand_text (factor_grouped x) ≡ factor_text x
  factor_grouped_text (digit n) = refl
  factor_grouped_text (bracketed f) = ap (λ (y : List ℕ). 40 ∷ y ++ 41 ∷ []) (grouped_text f)

-- ---- a grouped tree in the order of its text
mutual
  ordered : Sum → Formula
  ordered (first_term p) = one_term (product_ordered p)
  ordered (and_term s p) = ordered_onto s (one_term (product_ordered p))

  ordered_onto : Sum → Formula → Formula
  ordered_onto (first_term p) f = plus (product_ordered p) f
  ordered_onto (and_term s p) f = ordered_onto s (plus (product_ordered p) f)

  product_ordered : Product → Term
  product_ordered (first_factor o) = one_factor (operand_ordered o)
  product_ordered (and_factor p o) = product_ordered_onto p (one_factor (operand_ordered o))

  product_ordered_onto : Product → Term → Term
  product_ordered_onto (first_factor o) t = times (operand_ordered o) t
  product_ordered_onto (and_factor p o) t = product_ordered_onto p (times (operand_ordered o) t)

  operand_ordered : Operand → Factor
  operand_ordered (place n) = digit n
  operand_ordered (group s) = bracketed (ordered s)

-- grouped again it is the same
mutual
  unfolding ordered grouped

  again : (s : Sum) → grouped (ordered s) ≡ s
  again (first_term p) = ap first_term (product_again p)
  again (and_term s p) =
      onto_again s (one_term (product_ordered p)) ∙ ap (λ (q : Product). and_term s q) (product_again p)

  onto_again : (s : Sum) (f : Formula) → grouped (ordered_onto s f) ≡ grouped_onto f s
  onto_again (first_term p) f = ap (λ (q : Product). grouped_onto f (first_term q)) (product_again p)
  onto_again (and_term s p) f =
      onto_again s (plus (product_ordered p) f) ∙ ap (λ (q : Product). grouped_onto f (and_term s q)) (product_again p)

  product_again : (p : Product) → term_grouped (product_ordered p) ≡ p
  product_again (first_factor o) = ap first_factor (operand_again o)
  product_again (and_factor p o) =
      product_onto_again p (one_factor (operand_ordered o)) ∙ ap (λ (q : Operand). and_factor p q) (operand_again o)

  product_onto_again : (p : Product) (t : Term) → term_grouped (product_ordered_onto p t) ≡ term_grouped_onto t p
  product_onto_again (first_factor o) t = ap (λ (q : Operand). term_grouped_onto t (first_factor q)) (operand_again o)
  product_onto_again (and_factor p o) t =
      product_onto_again p (times (operand_ordered o) t)
      ∙ ap (λ (q : Operand). term_grouped_onto t (and_factor p q)) (operand_again o)

  operand_again : (o : Operand) → factor_grouped (operand_ordered o) ≡ o
  operand_again (place n) = refl
  operand_again (group s) = ap group (again s)

-- and its text is the same
ordered_text : (s : Sum) → text (ordered s) ≡ sum_text s
ordered_text s = sym (grouped_text (ordered s)) ∙ ap sum_text (again s)

-- each text has one grouped reading
pub one_grouping : (s u : Sum) → sum_text s ≡ sum_text u → s ≡ u
one_grouping s u e =
    sym (again s) ∙ ap grouped (one_reading (ordered s) (ordered u) (ordered_text s ∙ e ∙ sym (ordered_text u)))
    ∙ again u

-- ---- grouping keeps the value
module _ {A : Type 0} (slot : ℕ → A) (add multiply : A → A → A) where
  mutual
    unfolding grouped sum_value value

    pub grouped_value : (f : Formula) → sum_value slot add multiply (grouped f) ≡ value slot add multiply f
    grouped_value (one_term t) = term_grouped_value t
    grouped_value (plus t f) =
        onto_value f (first_term (term_grouped t)) ∙ ap (value_onto slot add multiply f) (term_grouped_value t)

    onto_value : (f : Formula) (s : Sum)
        → sum_value slot add multiply (grouped_onto f s) ≡ value_onto slot add multiply f
        (sum_value slot add multiply s)
    onto_value (one_term t) s = ap (add (sum_value slot add multiply s)) (term_grouped_value t)
    onto_value (plus t f) s =
        onto_value f (and_term s (term_grouped t))
        ∙ ap (λ (a : A). value_onto slot add multiply f (add (sum_value slot add multiply s) a))
        (term_grouped_value t)

    term_grouped_value : (t : Term)
        → product_value slot add multiply (term_grouped t) ≡ term_value slot add multiply t
    term_grouped_value (one_factor x) = factor_grouped_value x
    term_grouped_value (times x t) =
        term_onto_value t (first_factor (factor_grouped x))
        ∙ ap (term_value_onto slot add multiply t) (factor_grouped_value x)

    term_onto_value : (t : Term) (p : Product)
        → product_value slot add multiply (term_grouped_onto t p) ≡ term_value_onto slot add multiply t
        (product_value slot add multiply p)
    term_onto_value (one_factor x) p = ap (multiply (product_value slot add multiply p)) (factor_grouped_value x)
    term_onto_value (times x t) p =
        term_onto_value t (and_factor p (factor_grouped x))
        ∙ ap (λ (a : A). term_value_onto slot add multiply t (multiply (product_value slot add multiply p) a))
        (factor_grouped_value x)

    factor_grouped_value : (x : Factor)
        → operand_value slot add multiply (factor_grouped x) ≡ factor_value slot add multiply x
    factor_grouped_value (digit n) = refl
    factor_grouped_value (bracketed f) = grouped_value f
