-- `apply_unary` gives `unary_word`: each arm by the operator that the match found, and by what the callee gives.
use Rattle.twos_complement.specs.TwosComplement.{word}
use Rattle.operators.specs.Operators.{unary_word}
use Rattle.operators.proofs.Laws.{identity_word_lem}
use Rattle.operators.proofs.apply_unary.Goals as goal

pub returns-in-Identity : goal.returns-in-Identity
returns-in-Identity c = rw c.in-Identity.is (identity_word_lem c.ranges.x.fits)

pub returns-in-Ainv : goal.returns-in-Ainv
unfolding unary_word
returns-in-Ainv c = rw c.in-Ainv.is c.negate.ensures

pub returns-in-Abs : goal.returns-in-Abs
unfolding unary_word
returns-in-Abs c = rw c.in-Abs.is c.absolute.ensures

pub returns-in-Lnot : goal.returns-in-Lnot
unfolding unary_word
returns-in-Lnot c = rw c.in-Lnot.is c.logical_not.ensures

pub returns-in-One : goal.returns-in-One
unfolding unary_word word
returns-in-One c = rw c.in-One.is
