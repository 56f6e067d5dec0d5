-- Rows of the product, as functions of the column.
use Rattle.std.specs.Prelude.{ℕ, ◌≡◌, List, cond, set, None, Some}
use Rattle.grid.specs.Cell.{Cell}
use Rattle.operators.specs.declared.BinaryOp.{BinaryOp}
use Rattle.operators.specs.declared.Monoid.{Monoid}
use Rattle.operators.specs.Operators.{monoid_op}
use Rattle.operations.specs.declared.WriteBack.{WriteBack}
use Rattle.operations.specs.CellOperations.{intersect, unite, dot}
use Rattle.operations.specs.WriteBacks.{inside}
use Rattle.matrix.specs.Layout.{rows, cell_of}
use Rattle.bit_rows.specs.Bits.{flagged, Marking}

-- the row a times the matrix b
abbrev pub product_row : Monoid → BinaryOp → (ℕ → Cell) → List ℕ → ℕ → Cell
product_row monoid op a b j = dot monoid op (rows b) a (λ k. cell_of b k j)

-- the row `sum` after x times the row b is added
abbrev pub added_row : Monoid → BinaryOp → ℕ → (ℕ → Cell) → (ℕ → Cell) → ℕ → Cell
added_row monoid op x b sum j = unite (monoid_op monoid) (sum j) (intersect op (Some x) (b j))

-- of the row f what lies inside the mask, whose row is m
unfoldable pub inside_row : WriteBack → (ℕ → Cell) → (ℕ → Cell) → ℕ → Cell
inside_row w m f j = cond (inside w (m j)) (f j) None

-- the product x is added at column j, which is marked
pub record AddedAt (monoid : Monoid) (x j : ℕ) (map sums : List ℕ) (top' : ℕ) (map' sums' : List ℕ) : Type 0 where
  pub marking : Marking j map top' map'
  pub sum : ℕ
  pub adds : Some sum ≡ unite (monoid_op monoid) (flagged map sums j) (Some x)
  pub stored : sums' ≡ set sums j sum
