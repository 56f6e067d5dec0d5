-- `way_of` means what is asked for: two ways by their names, the write-back by `write_way`.
use mathlib.Core.Path.{refl}
use Rattle.merge.specs.Combined.{combined}
use Rattle.merge.specs.Ways.{way_cell}
use Rattle.merge.proofs.way_of.Goals as goal

pub returns-in-Intersect : goal.returns-in-Intersect
unfolding way_cell combined
returns-in-Intersect c = rw c.in-Intersect.is (λ m x t. refl)

pub returns-in-Unite : goal.returns-in-Unite
unfolding way_cell combined
returns-in-Unite c = rw c.in-Unite.is (λ m x t. refl)

pub returns-in-Write : goal.returns-in-Write
returns-in-Write c = rw c.in-Write.is c.write_way.ensures
