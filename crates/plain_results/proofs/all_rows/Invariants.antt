-- `all_rows` leaves the rows of T one after another.
use Prim.Native.Nat.{◌-◌}
use mathlib.Core.Path.{◌≡◌}
use lib.ListN.{length}
use Rattle.plain_results.proofs.Rows.{Passed}
use Rattle.plain_results.proofs.all_rows.Given as goal

abbrev pub invariant-loop-i : goal.invariant-loop-i
invariant-loop-i l =
    Passed l.operation l.a l.b l.c l.is l.js l.total l.n l.i l.starts l.oc l.ov
    × ((length l.starts ≡ length l.initial.starts) × (length l.oc ≡ length l.initial.oc) × (length l.ov ≡ length l.initial.ov))

abbrev pub decreases-loop-i : goal.decreases-loop-i
decreases-loop-i l = l.total - l.i
