-- `apply_binary` gives `binary_word`: each arm by the operator that the match found, and by what the callee gives.
use Rattle.twos_complement.specs.TwosComplement.{word}
use Rattle.operators.specs.Operators.{binary_word}
use Rattle.operators.proofs.Laws.{first_word, second_word, plus_word, minus_word}
use Rattle.operators.proofs.apply_binary.Goals as goal

pub returns-in-First : goal.returns-in-First
returns-in-First c = rw c.in-First.is (first_word c.ranges.x.fits _)

pub returns-in-Second : goal.returns-in-Second
returns-in-Second c = rw c.in-Second.is (second_word c.ranges.y.fits _)

pub returns-in-Oneb : goal.returns-in-Oneb
unfolding binary_word word
returns-in-Oneb c = rw c.in-Oneb.is

pub returns-in-Plus : goal.returns-in-Plus
returns-in-Plus c =
    rw c.in-Plus.is (plus_word c.ranges.x.fits c.ranges.y.fits)

pub returns-in-Minus : goal.returns-in-Minus
returns-in-Minus c =
    rw c.in-Minus.is (minus_word c.ranges.x.fits c.ranges.y.fits)

pub returns-in-Times : goal.returns-in-Times
unfolding binary_word
returns-in-Times c = rw c.in-Times.is c.multiply.ensures

pub returns-in-Min : goal.returns-in-Min
unfolding binary_word
returns-in-Min c = rw c.in-Min.is c.minimum.ensures

pub returns-in-Max : goal.returns-in-Max
unfolding binary_word
returns-in-Max c = rw c.in-Max.is c.maximum.ensures
