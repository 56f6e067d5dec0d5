-- What the operations do with the cells at one position (document 01, "The six operations", and document 02, A4 and A14).
use Rattle.std.specs.Prelude.{ℕ, zero, suc, List, cond, length, eqb, None, Some}
use Rattle.words.specs.Words.{at}
use Rattle.grid.specs.Cell.{Cell}
use Rattle.operators.specs.declared.ApplyOp.{ApplyOp}
use Rattle.operators.specs.declared.BinaryOp.{BinaryOp}
use Rattle.operators.specs.declared.Monoid.{Monoid}
use Rattle.operators.specs.Operators.{binary_word, monoid_op, entry_word}
use Rattle.select_ops.specs.declared.SelectOp.{SelectOp}
use Rattle.select_ops.specs.Selects.{selects}
use Rattle.operations.specs.Accumulator.{Accumulator}

-- "the operator where both are present, otherwise nothing"
abbrev pub intersect : BinaryOp → Cell → Cell → Cell
intersect op None b = None
intersect op (Some x) None = None
intersect op (Some x) (Some y) = Some (binary_word op x y)

-- "the operator where both are present; a lone value is passed as it is, from either side"
abbrev pub unite : BinaryOp → Cell → Cell → Cell
unite op None b = b
unite op (Some x) None = Some x
unite op (Some x) (Some y) = Some (binary_word op x y)

-- "over all k where A(i,k) and B(k,j) are both present, multiply, then add up with the monoid. No such k: no entry." Here
-- row and column are A(i,·) and B(·,j), and k goes up to n in order.
unfoldable pub dot : Monoid → BinaryOp → ℕ → (ℕ → Cell) → (ℕ → Cell) → Cell
dot monoid op zero row col = None
dot monoid op (suc n) row col = unite (monoid_op monoid) (dot monoid op n row col) (intersect op (row n) (col n))

-- "Apply: .. Only present entries." The entry stands at row i and column j of the input as its flag asks.
abbrev pub apply_cell : ApplyOp → ℕ → ℕ → Cell → Cell
apply_cell op i j None = None
apply_cell op i j (Some x) = Some (entry_word op x i j)

-- select: an entry for which the condition holds is kept as it is, at row i and column j of the input as its flag asks
abbrev pub select_cell : SelectOp → ℕ → ℕ → Cell → Cell
select_cell op i j None = None
select_cell op i j (Some x) = cond (selects op x i j) (Some x) None

-- what stands in a row or column that a list may name: where i is one of its first n indexes, index k, the cell that f has
-- for k, and else the cell c
unfoldable pub listed_cell : ℕ → List ℕ → ℕ → (ℕ → Cell) → Cell → Cell
listed_cell zero list i f c = c
listed_cell (suc n) list i f c = cond (eqb (at list n) i) (f n) (listed_cell n list i f c)

-- the place (i, j) of an assign: where I[k] is i and J[l] is j it takes the cell (k, l), and else c
abbrev pub assigned_cell : List ℕ → List ℕ → (ℕ → ℕ → Cell) → Cell → ℕ → ℕ → Cell
assigned_cell is js cell c i j = listed_cell (length is) is i (λ k. listed_cell (length js) js j (cell k) c) c

-- assign, at a place of old C that is not listed: "a place not listed keeps old C before the mask is applied". Under an
-- accumulator T has nothing there, and the union of old C and T keeps old C.
abbrev pub unlisted_cell : Accumulator → Cell → Cell
unlisted_cell None c = c
unlisted_cell (Some op) c = None
