-- `write_starts` turns counts into starts: after j turns, the first j of them.
use Rattle.transpose.proofs.Sums.{Summing}
use Rattle.transpose.proofs.write_starts.Given as goal

abbrev pub invariant-loop-j : goal.invariant-loop-j
invariant-loop-j l = Summing l.c l.initial.counts l.initial.starts l.counts l.starts l.sum l.j
