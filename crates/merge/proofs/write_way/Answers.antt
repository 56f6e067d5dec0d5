-- `write_way` means the write-back, case by case.
use Rattle.merge.proofs.Ways.{masked_means, nothing_means, first_means, second_means, unite_means}
use Rattle.merge.proofs.write_way.Goals as goal

pub returns-then-w : goal.returns-then-w
returns-then-w c = masked_means _

pub returns-then-w-3 : goal.returns-then-w-3
returns-then-w-3 c = nothing_means _ c.if-w.false c.if-w-2.true c.if-w-3.true

pub returns-else-w-3 : goal.returns-else-w-3
returns-else-w-3 c = first_means _ c.if-w.false c.if-w-2.true c.if-w-3.false

pub returns-in-None : goal.returns-in-None
returns-in-None c = second_means _ c.if-w.false c.if-w-2.false c.in-None.is

pub returns-in-Some : goal.returns-in-Some
returns-in-Some c = unite_means _ c.if-w.false c.if-w-2.false _ c.in-Some.is
