-- `sections_end` passes the sections one by one, each valid.
use Rattle.slots.proofs.Checks.{Walk}
use Rattle.slots.proofs.sections_end.Given as goal

abbrev pub invariant-loop-k : goal.invariant-loop-k
invariant-loop-k l = Walk l.store l.end l._k
