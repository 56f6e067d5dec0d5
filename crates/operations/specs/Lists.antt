-- What the test of an index list says of its length and its bounds, as facts on numbers.
use Rattle.std.specs.Prelude.{ℕ, ◌≤◌, ◌<◌, List, length}
use Rattle.limits.specs.Limits.{max_list}
use Rattle.words.specs.Words.{at}
use Rattle.operations.specs.declared.Shape.{Shape}

-- an index list that fits n rows or columns
pub record IndexList (n : ℕ) (l : List ℕ) : Type 0 where
  pub least : 1 ≤ length l
  pub most : length l ≤ max_list
  pub below : (k : ℕ) → k < length l → at l k < n

-- a shape within n by n: lists that it bounds have indexes below n
abbrev pub Small : ℕ → Shape → Type 0
Small n s = (s.rows ≤ n) × (s.cols ≤ n)
