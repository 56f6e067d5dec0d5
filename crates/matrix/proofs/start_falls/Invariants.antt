-- `start_falls` is `start_falls`: the falls at the starts of the rows passed.
use Prim.Native.Nat.{◌≤◌}
use mathlib.Core.Path.{◌≡◌}
use Rattle.column_order.specs.Falls.{count}
use Rattle.matrix.specs.Falls.{falls_at_start}
use Rattle.matrix.proofs.start_falls.Given as goal

abbrev pub invariant-loop-i : goal.invariant-loop-i
invariant-loop-i l = record { few : l.falls ≤ l.i; counted : l.falls ≡ count l.i (falls_at_start l.words) }
