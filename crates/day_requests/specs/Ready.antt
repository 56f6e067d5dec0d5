-- What is known of a call that none of the refusals 3 to 8 applies to.
use Rattle.std.specs.Prelude.{ℕ, ◌<◌, ◌≡◌, List}
use Rattle.matrix.specs.Layout.{rows, cols}
use Rattle.matrix.specs.Facts.{Matrix}

-- a day matrix with marks for its rows
pub record Day (day marks : List ℕ) : Type 0 where
  pub day_valid : Matrix day
  pub marks_valid : Matrix marks
  pub one_row : rows marks ≡ 1
  pub mark_rows : cols marks ≡ rows day

-- and a base matrix of one shape
pub record Pair (base day marks : List ℕ) : Type 0 where
  pub base_valid : Matrix base
  pub over : Day day marks
  pub same_rows : rows day ≡ rows base
  pub same_cols : cols day ≡ cols base

-- a row of the day matrix
pub record Backable (day marks : List ℕ) (i : ℕ) : Type 0 where
  pub over : Day day marks
  pub row : i < rows day

-- and a vector for it
pub record Rewritable (day marks : List ℕ) (i : ℕ) (new : List ℕ) : Type 0 where
  pub back : Backable day marks i
  pub new_valid : Matrix new
  pub new_row : rows new ≡ 1
  pub new_cols : cols new ≡ cols day

-- a cell of the base matrix
pub record Readable (base day marks : List ℕ) (i j : ℕ) : Type 0 where
  pub pair : Pair base day marks
  pub row : i < rows base
  pub col : j < cols base
