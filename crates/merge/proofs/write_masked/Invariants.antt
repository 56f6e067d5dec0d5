-- `write_masked` leaves the row written back: `Merged` holds at each column where one of the two rows has an entry.
use Prim.Native.Nat.{◌-◌}
use Rattle.merge.specs.Ways.{written_row}
use Rattle.merge.proofs.Merging.{Merged}
use Rattle.merge.proofs.write_masked.Given as goal

abbrev pub invariant-loop-q : goal.invariant-loop-q
invariant-loop-q l =
    Merged (written_row l.w l.mc l.mv l.cc l.cv l.tc l.tv) l.places l.mc l.cc l.tc l.initial.oc l.initial.ov l.oc l.ov
    l.m l.i l.k l.e l.q

abbrev pub decreases-loop-q : goal.decreases-loop-q
decreases-loop-q l = l.places - l.q
