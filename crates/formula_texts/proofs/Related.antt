-- Two values of one formula are related where what its slots hold is and both steps keep the relation: for the laws of
-- values over grids.
use Prim.Native.Nat.{ℕ}
use Rattle.formula_texts.specs.Trees.{Formula, Term, Factor, one_term, plus, one_factor, times, digit, bracketed}
use Rattle.formula_texts.specs.Values.{value, value_onto, term_value, term_value_onto, factor_value}

module _ {A B : Type 0} (R : A → B → Type 0) (slot : ℕ → A) (add multiply : A → A → A) (slot' : ℕ → B)
    (add' multiply' : B → B → B) (held : (n : ℕ) → R (slot n) (slot' n))
    (added : (a b : A) (a' b' : B) → R a a' → R b b' → R (add a b) (add' a' b'))
    (multiplied : (a b : A) (a' b' : B) → R a a' → R b b' → R (multiply a b) (multiply' a' b')) where
  -- of a formula, a term, a factor; `onto` of what is joined on to related values
  mutual
    unfolding value

    pub related : (f : Formula) → R (value slot add multiply f) (value slot' add' multiply' f)
    related (one_term t) = term_related t
    related (plus t f) = onto_related f _ _ (term_related t)

    onto_related : (f : Formula) (a : A) (a' : B) → R a a'
        → R (value_onto slot add multiply f a) (value_onto slot' add' multiply' f a')
    onto_related (one_term t) a a' r = added _ _ _ _ r (term_related t)
    onto_related (plus t f) a a' r = onto_related f _ _ (added _ _ _ _ r (term_related t))

    term_related : (t : Term) → R (term_value slot add multiply t) (term_value slot' add' multiply' t)
    term_related (one_factor x) = factor_related x
    term_related (times x t) = term_onto_related t _ _ (factor_related x)

    term_onto_related : (t : Term) (a : A) (a' : B) → R a a'
        → R (term_value_onto slot add multiply t a) (term_value_onto slot' add' multiply' t a')
    term_onto_related (one_factor x) a a' r = multiplied _ _ _ _ r (factor_related x)
    term_onto_related (times x t) a a' r = term_onto_related t _ _ (multiplied _ _ _ _ r (factor_related x))

    factor_related : (x : Factor) → R (factor_value slot add multiply x) (factor_value slot' add' multiply' x)
    factor_related (digit n) = held n
    factor_related (bracketed f) = related f
