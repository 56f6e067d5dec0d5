-- `same_shape` compares the two counts one after the other.
use Rattle.std.proofs.Common.{arith}
use Rattle.conditions.specs.Tests.{◌and◌}
use Rattle.day_requests.specs.Refusal.{same_shape}
use Rattle.day_requests.proofs.same_shape.Goals as goal

pub returns-then-day-base : goal.returns-then-day-base
unfolding same_shape ◌and◌
returns-then-day-base c = grind arith

pub returns-else-day-base : goal.returns-else-day-base
unfolding same_shape ◌and◌
returns-else-day-base c = grind arith
