-- `shapes_fit` compares the four counts one after the other.
use Rattle.std.proofs.Common.{arith}
use Rattle.conditions.specs.Tests.{◌and◌}
use Rattle.key_requests.specs.Refusal.{shapes_fit}
use Rattle.key_requests.proofs.shapes_fit.Goals as goal

pub returns-then-row_count-eq1 : goal.returns-then-row_count-eq1
unfolding shapes_fit ◌and◌
returns-then-row_count-eq1 c = grind arith

pub returns-else-row_count-eq1 : goal.returns-else-row_count-eq1
unfolding shapes_fit ◌and◌
returns-else-row_count-eq1 c = grind arith
