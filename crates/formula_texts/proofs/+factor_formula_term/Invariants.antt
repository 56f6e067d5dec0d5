-- What falls with each call: three calls to a byte that is left.
use Rattle.std.proofs.Common.{length, ◌+◌, ◌-◌, ◌*◌}
use Rattle.formula_texts.proofs.+factor_formula_term.Given as goal

abbrev pub decreases-factor : goal.decreases-factor
decreases-factor l = 3 * (length l.text.now - l.at) + 1

abbrev pub decreases-formula : goal.decreases-formula
decreases-formula l = 3 * (length l.text.now - l.at) + 3

abbrev pub decreases-term : goal.decreases-term
decreases-term l = 3 * (length l.text.now - l.at) + 2
