-- Matrices and vectors as the tables of document 01 write them: a shape and a list of entries with signed values.
use Rattle.std.specs.Prelude.{ℕ, List, [], ◌∷◌, Bool, true, cond, ℤ, pos, neg_ℤ, ltb, eqb, None, Some}
use Rattle.std.specs.Int.Signed.{le_z}
use Rattle.twos_complement.specs.TwosComplement.{word}
use Rattle.conditions.specs.Tests.{◌and◌}
use Rattle.grid.specs.Cell.{Cell}
use Rattle.grid.specs.Grid.{Grid}

-- an entry with its position: "(0,1)3" is `entry 0 1 (pos 3)`
pub data Tuple : Type 0 where
  entry : (row col : ℕ) (value : ℤ) → Tuple

-- an entry of a vector: "0:1" is `at 0 (pos 1)`
abbrev pub at : ℕ → ℤ → Tuple
at j v = entry 0 j v

pub record Listed : Type 0 where
  pub rows : ℕ
  pub cols : ℕ
  pub tuples : List Tuple

abbrev pub matrix : ℕ → ℕ → List Tuple → Listed
matrix r c tuples = record { rows = r; cols = c; tuples = tuples }

-- "A strip is a sheet with R = 1."
abbrev pub vector : ℕ → List Tuple → Listed
vector c tuples = matrix 1 c tuples

-- the cell at row i and column j
unfoldable pub listed_cell : List Tuple → ℕ → ℕ → Cell
listed_cell [] i j = None
listed_cell (entry row col v ∷ rest) i j =
    cond (eqb row i and eqb col j) (Some (word v)) (listed_cell rest i j)

abbrev pub listed_grid : Listed → Grid
listed_grid l = record { rows = l.rows; cols = l.cols; cell = listed_cell l.tuples }

-- "a value is -2,147,483,648 to 2,147,483,647"
abbrev pub value_fits : ℤ → Bool
value_fits v = le_z (neg_ℤ (pos 2147483648)) v and le_z v (pos 2147483647)

-- every entry stands within r rows and c columns and has such a value: none is lost in the grid, and none wraps
unfoldable pub tuples_fit : ℕ → ℕ → List Tuple → Bool
tuples_fit r c [] = true
tuples_fit r c (entry row col v ∷ rest) = ltb row r and ltb col c and value_fits v and tuples_fit r c rest

abbrev pub listed_fits : Listed → Bool
listed_fits l = tuples_fit l.rows l.cols l.tuples
