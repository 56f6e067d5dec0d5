-- `semiring_known` asks for both.
use Rattle.std.proofs.Common.{rules}
use Rattle.conditions.specs.Tests.{◌and◌}
use Rattle.call_codes.proofs.semiring_known.Goals as goal

pub returns-then-is_some : goal.returns-then-is_some
unfolding ◌and◌
returns-then-is_some c = rw (← c.monoid_code.ensures, ← c.is_some.ensures, c.if-is_some.true) (search rules)

pub returns-else-is_some : goal.returns-else-is_some
unfolding ◌and◌
returns-else-is_some c = rw (← c.monoid_code.ensures, ← c.is_some.ensures, c.if-is_some.false) (search rules)
