-- `indexes_distinct` marks the indexes that it has passed: each of them fits.
use Rattle.requests.proofs.Lists.{Passed}
use Rattle.requests.proofs.indexes_distinct.Given as goal

abbrev pub invariant-loop-index : goal.invariant-loop-index
invariant-loop-index l = Passed l.n l.list l.index-index l.top l.seen
