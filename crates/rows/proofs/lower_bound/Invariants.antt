-- `lower_bound` halves the range: the columns before `low` are below j, and those from `high` on are not.
use Prim.Native.Nat.{◌-◌, ◌≤◌}
use lib.ListN.{length}
use Rattle.rows.specs.Row.{Rises}
use Rattle.rows.proofs.Halving.{Left}
use Rattle.rows.proofs.Search.{Below, NotBelow}
use Rattle.rows.proofs.lower_bound.Given as goal

abbrev pub invariant-loop-low : goal.invariant-loop-low
invariant-loop-low l =
    (l.low ≤ l.high) × (l.high ≤ length l.columns) × Rises l.columns × Below l.j l.columns l.low × NotBelow l.j l.columns l.high
    × Left l.j l.columns l.looks l.low l.high

abbrev pub decreases-loop-low : goal.decreases-loop-low
decreases-loop-low l = l.high - l.low
