-- `seek` gives the position: no index that is passed holds column q or a later one.
use Prim.Native.Nat.{◌≤◌}
use Rattle.rows.specs.Row.{position}
use Rattle.merge.proofs.seek.Given as goal

abbrev pub invariant-loop-k : goal.invariant-loop-k
invariant-loop-k l = l.k ≤ position l.q l.columns
