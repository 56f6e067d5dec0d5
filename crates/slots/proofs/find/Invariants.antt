-- `find` adds up the sections before a slot's.
use Prim.Native.Nat.{◌≤◌}
use mathlib.Core.Path.{◌≡◌}
use Rattle.slots.specs.Sections.{end_from}
use Rattle.slots.proofs.find.Given as goal

abbrev pub invariant-loop-k : goal.invariant-loop-k
invariant-loop-k l = (l._k ≤ l.slot) × (l.at ≡ end_from l._k l.store)
