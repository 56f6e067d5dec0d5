-- The ways to make one row of two without looking at more than is needed.
use Rattle.std.specs.Prelude.{ℕ, ◌≡◌, List, None}
use Rattle.grid.specs.Cell.{Cell}
use Rattle.operations.specs.CellOperations.{intersect, unite}
use Rattle.operations.specs.declared.WriteBack.{WriteBack}
use Rattle.operations.specs.WriteBacks.{write_back}
use Rattle.rows.specs.Row.{lookup}
use Rattle.merge.specs.declared.Combine.{Combine}
use Rattle.merge.specs.declared.Way.{Way}
use Rattle.merge.specs.declared.Way.TheVariants.{Nothing, First, Second, Intersect, Unite, Masked}
use Rattle.merge.specs.Combined.{combined}

-- what stands in the output where the mask has m and the two rows c and t
unfoldable pub way_cell : Way → Cell → Cell → Cell → Cell
way_cell Nothing m c t = None
way_cell First m c t = c
way_cell Second m c t = t
way_cell (Intersect op) m c t = intersect op c t
way_cell (Unite op) m c t = unite op c t
way_cell (Masked w) m c t = write_back w m c t

-- a way does what is asked for
abbrev pub Means : Way → Combine → Type 0
Means way how = (m c t : Cell) → way_cell way m c t ≡ combined how m c t

-- the row of a write-back
abbrev pub written_row : WriteBack → List ℕ → List ℕ → List ℕ → List ℕ → List ℕ → List ℕ → ℕ → Cell
written_row w mc mv cc cv tc tv j = write_back w (lookup mc mv j) (lookup cc cv j) (lookup tc tv j)
