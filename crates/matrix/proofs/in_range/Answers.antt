-- `in_range` is the test `in_range`.
use borrow.Author.Tests.{le-leb, lt-leb}
use Rattle.conditions.specs.Tests.{◌and◌}
use Rattle.matrix.specs.Valid.{in_range}
use Rattle.matrix.proofs.in_range.Goals as goal

pub returns-then-x-ge1 : goal.returns-then-x-ge1
unfolding in_range ◌and◌
returns-then-x-ge1 c = rw (le-leb _ _ c.if-x-ge1.true)

pub returns-else-x-ge1 : goal.returns-else-x-ge1
unfolding in_range ◌and◌
returns-else-x-ge1 c = rw (lt-leb _ _ c.if-x-ge1.false)
