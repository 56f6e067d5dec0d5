-- `invert` leaves the inverse: the places before j stand at their columns.
use Rattle.extract_rows.specs.Indices.{InverseTo}
use Rattle.extract_rows.proofs.invert.Given as goal

abbrev pub invariant-loop-j : goal.invariant-loop-j
invariant-loop-j l = InverseTo l.j l.list l.out
