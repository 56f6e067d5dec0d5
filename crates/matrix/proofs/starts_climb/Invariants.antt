-- `starts_climb` tells of the starts passed.
use mathlib.Core.Path.{◌≡◌}
use Rattle.conditions.specs.Tests.{all}
use Rattle.matrix.specs.Valid.{climbs}
use Rattle.matrix.proofs.starts_climb.Given as goal

abbrev pub invariant-loop-i : goal.invariant-loop-i
invariant-loop-i l = l.climb ≡ all l.i (climbs l.words)
