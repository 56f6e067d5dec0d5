-- `rounds` holds the keys of round n, and the doors' first rounds up to it.
use Prim.Native.Nat.{◌+◌}
use Rattle.matrix.specs.Layout.{grid_of}
use Rattle.key_marks.specs.Marks.{held, Rounds}
use Rattle.key_marks.proofs.rounds.Given as goal

abbrev pub invariant-loop-n : goal.invariant-loop-n
invariant-loop-n l = Rounds (grid_of l.locks) (grid_of l.cabinets) (held l.initial.keys) l.n (l.n + 1) l.keys l.doors
