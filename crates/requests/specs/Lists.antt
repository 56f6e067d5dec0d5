-- The indexes of a list that were passed, as marks.
use Rattle.std.specs.Prelude.{ℕ, ◌≡◌, List, cond}
use Rattle.bit_rows.specs.Bits.{mark, Tracked}
use Rattle.operations.specs.Calls.{fresh}

-- the map has a mark exactly for each of the first k indexes of l
pub record Seen (l : List ℕ) (k top : ℕ) (map : List ℕ) : Type 0 where
  pub tracked : Tracked top map
  pub marks : (j : ℕ) → mark map j ≡ cond (fresh l k j) 0 1
