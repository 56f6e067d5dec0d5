-- Nothing comes after a failure: what is added or multiplied on to it changes nothing.
use mathlib.Core.Path.{◌≡◌, refl}
use Prim.Native.Nat.{ℕ}
use Rattle.operations.specs.declared.Operation.{Operation}
use Rattle.formula_texts.specs.Trees.{Formula, Term, one_term, plus, one_factor, times}
use Rattle.formula_texts.specs.Values.{value, value_onto, term_value_onto}
use Rattle.formula_values.specs.Values.{Failure, Value, fails, step}

module _ (slot : ℕ → Value) (sum product : Operation) (x : Failure) where
  -- terms added to a failure
  pub onto_failure : (f : Formula) → value_onto slot (step sum) (step product) f (fails x) ≡ fails x
  unfolding value
  onto_failure (one_term t) = refl
  onto_failure (plus t f) = onto_failure f

  -- factors that a failure is multiplied by
  pub term_onto_failure : (t : Term) → term_value_onto slot (step sum) (step product) t (fails x) ≡ fails x
  unfolding value
  term_onto_failure (one_factor y) = refl
  term_onto_failure (times y t) = term_onto_failure t
