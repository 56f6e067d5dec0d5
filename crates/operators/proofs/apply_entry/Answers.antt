-- `apply_entry` gives `entry_word`: each arm by the kind that the match found, and by what the callee gives.
use Rattle.operators.specs.Operators.{entry_word}
use Rattle.operators.proofs.apply_entry.Goals as goal

pub returns-in-Unary : goal.returns-in-Unary
unfolding entry_word
returns-in-Unary c = rw c.in-Unary.is c.apply_unary.ensures

pub returns-in-BinaryScalarFirst : goal.returns-in-BinaryScalarFirst
unfolding entry_word
returns-in-BinaryScalarFirst c = rw c.in-BinaryScalarFirst.is c.apply_binary.ensures

pub returns-in-BinaryScalarSecond : goal.returns-in-BinaryScalarSecond
unfolding entry_word
returns-in-BinaryScalarSecond c = rw c.in-BinaryScalarSecond.is c.apply_binary-in-BinaryScalarSecond.ensures

pub returns-in-IndexUnary : goal.returns-in-IndexUnary
unfolding entry_word
returns-in-IndexUnary c = rw c.in-IndexUnary.is c.apply_index_unary.ensures
