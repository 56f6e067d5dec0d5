-- Three ways to make one row of two (document 01, "The six operations"): "Intersection", "Union" and "Write-back", each
-- by its definition on the cells at one position. The mask's cell m counts for the write-back only, where c is
-- the old C.
use Rattle.std.specs.Prelude.{ℕ, List}
use Rattle.grid.specs.Cell.{Cell}
use Rattle.operations.specs.CellOperations.{intersect, unite}
use Rattle.operations.specs.WriteBacks.{write_back}
use Rattle.rows.specs.Row.{lookup}
use Rattle.merge.specs.declared.Combine.{Combine}
use Rattle.merge.specs.declared.Combine.TheVariants.{Intersect, Unite, Write}

-- what stands in the output where the mask has m and the two rows c and t
unfoldable pub combined : Combine → Cell → Cell → Cell → Cell
combined (Intersect op) m c t = intersect op c t
combined (Unite op) m c t = unite op c t
combined (Write w) m c t = write_back w m c t

-- the output's row as a function of the column: the mask's row is mc and mv, the two rows cc and cv, tc and tv
abbrev pub combined_row : Combine → List ℕ → List ℕ → List ℕ → List ℕ → List ℕ → List ℕ → ℕ → Cell
combined_row how mc mv cc cv tc tv j = combined how (lookup mc mv j) (lookup cc cv j) (lookup tc tv j)
