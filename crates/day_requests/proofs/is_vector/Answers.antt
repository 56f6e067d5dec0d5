-- `is_vector` compares the two counts one after the other.
use Rattle.std.proofs.Common.{arith}
use Rattle.conditions.specs.Tests.{◌and◌}
use Rattle.day_requests.specs.Refusal.{is_vector}
use Rattle.day_requests.proofs.is_vector.Goals as goal

pub returns-then-words-eq1 : goal.returns-then-words-eq1
unfolding is_vector ◌and◌
returns-then-words-eq1 c = grind arith

pub returns-else-words-eq1 : goal.returns-else-words-eq1
unfolding is_vector ◌and◌
returns-else-words-eq1 c = grind arith
