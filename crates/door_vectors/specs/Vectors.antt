-- The doors' words read as a row of cells.
use Rattle.std.specs.Prelude.{ℕ, ◌-◌, ◌≤◌, ◌≡◌, List, cond, length, eqb, None, Some}
use Rattle.limits.specs.Limits.{max_cols}
use Rattle.words.specs.Words.{at}
use Rattle.grid.specs.Cell.{Cell}
use Rattle.grid.specs.Grid.{Grid}
use Rattle.grid.specs.Entries.{entry_count}
use Rattle.encoding.specs.Encode.{written_over}

-- the first round of door d, where it opened
unfoldable pub round_at : List ℕ → ℕ → Cell
round_at doors d = cond (eqb (at doors d) 0) None (Some (at doors d - 1))

-- room for every door
pub record Room (doors oc ov : List ℕ) : Type 0 where
  pub few : length doors ≤ max_cols
  pub long_cols : length doors ≤ length oc
  pub long_vals : length doors ≤ length ov

-- "a new strip of doors .. each with the first round it opens in"
abbrev pub vector_of : List ℕ → Grid
vector_of doors = record { rows = 1; cols = length doors; cell = λ i. round_at doors }

-- a grid of n entries is written at the front of words
pub record Written (g : Grid) (n : ℕ) (w : List ℕ) : Type 0 where
  pub count : n ≡ entry_count g
  pub words : w ≡ written_over g w
