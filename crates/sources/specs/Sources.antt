-- The inputs as their flags ask: the lent words, or their transpose in a region of the workspace.
use Rattle.std.specs.Prelude.{ℕ, ◌*◌, ◌≡◌, List, Bool, true, false, cond}
use Rattle.words.specs.Words.{part}
use Rattle.grid.specs.Grid.{Same}
use Rattle.matrix.specs.Layout.{grid_of, max_matrix_words}
use Rattle.matrix.specs.Facts.{Matrix}
use Rattle.operations.specs.declared.Call.{Call}
use Rattle.operations.specs.GridOperations.{oriented}
use Rattle.operations.specs.Calls.{transpose_first, transpose_second, has_second}

-- whether there is a second input and it is transposed
abbrev pub second_flag : Call → Bool
second_flag call = cond (has_second call.operation) (transpose_second call) false

-- the regions of the workspace for the transposed inputs
abbrev pub first_region : List ℕ → List ℕ
first_region w = part max_matrix_words (2 * max_matrix_words) w

abbrev pub second_region : List ℕ → List ℕ
second_region w = part (2 * max_matrix_words) (3 * max_matrix_words) w

-- the words of an input as its flag asks
abbrev pub source : Bool → List ℕ → List ℕ → List ℕ
source flag region s = cond flag region s

-- valid words with the cells of an input as its flag asks
pub record Source (flag : Bool) (s x : List ℕ) : Type 0 where
  pub matrix : Matrix x
  pub same : Same (grid_of x) (oriented flag (grid_of s))

-- both inputs, with the regions of the workspace w
pub record Sources (call : Call) (a b w : List ℕ) : Type 0 where
  pub first : Source (transpose_first call) a (source (transpose_first call) (first_region w) a)
  pub second : has_second call.operation ≡ true
      → Source (transpose_second call) b (source (transpose_second call) (second_region w) b)
