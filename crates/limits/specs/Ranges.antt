-- Numbers of rows and columns: "R and C are 1 to 512" (A6: 1,000).
use Rattle.std.specs.Prelude.{ℕ, ◌≤◌, Bool, leb}
use Rattle.conditions.specs.Tests.{◌and◌}

-- the test
unfoldable pub in_range : ℕ → ℕ → Bool
in_range limit x = leb 1 x and leb x limit

-- what it says: a number of rows or columns that is 1 to a limit
pub record InRange (limit x : ℕ) : Type 0 where
  pub least : 1 ≤ x
  pub most : x ≤ limit
