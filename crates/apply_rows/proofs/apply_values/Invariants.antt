-- `apply_values` overwrites: after k turns the first k values are in place.
use mathlib.Core.Path.{◌≡◌}
use mathlib.Core.List.{map}
use lib.Seq.{paste}
use Rattle.apply_rows.specs.Values.{value_word}
use Rattle.apply_rows.proofs.apply_values.Given as goal

abbrev pub invariant-loop-k : goal.invariant-loop-k
invariant-loop-k l = l.dst ≡ paste l.initial.dst l.at (map (value_word l.op) l.src) l.k
