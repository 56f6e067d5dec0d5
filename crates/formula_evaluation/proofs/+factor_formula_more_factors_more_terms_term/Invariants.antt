-- The functions that read and work out a formula, together: each answer is of the value of the phrase that stands
-- there. The bytes left fall.
use lib.ListN.{length}
use Prim.Native.Nat.{◌+◌, ◌-◌, ◌*◌}
use Rattle.formula_evaluation.proofs.+factor_formula_more_factors_more_terms_term.Given as goal

abbrev pub decreases-factor : goal.decreases-factor
decreases-factor l = 6 * (length l.text.now - l.at) + 1

abbrev pub decreases-formula : goal.decreases-formula
decreases-formula l = 6 * (length l.text.now - l.at) + 5

abbrev pub decreases-more_factors : goal.decreases-more_factors
decreases-more_factors l = 6 * (length l.text.now - l.at) + 2

abbrev pub decreases-more_terms : goal.decreases-more_terms
decreases-more_terms l = 6 * (length l.text.now - l.at) + 4

abbrev pub decreases-term : goal.decreases-term
decreases-term l = 6 * (length l.text.now - l.at) + 3
