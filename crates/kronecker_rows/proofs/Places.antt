-- The definition, as document 02, A14 has it: "entry (i·p + k, j·q + l) from A(i,j) and a p by q B(k,l)".
use Prim.Native.Nat.{ℕ, ◌+◌, ◌*◌, ◌<◌}
use mathlib.Core.Path.{◌≡◌}
use mathlib.Core.List.{List}
use lib.Arith.{digits_div, digits_mod}
use Rattle.grid.specs.Grid.{Grid}
use Rattle.operators.specs.declared.BinaryOp.{BinaryOp}
use Rattle.operations.specs.declared.Operation.TheVariants.{Kronecker}
use Rattle.operations.specs.CellOperations.{intersect}
use Rattle.operations.specs.GridOperations.{result_cell}

pub place_cell : (op : BinaryOp) (a b c : Grid) (is js : List ℕ) (i j k l : ℕ) → k < b.rows → l < b.cols
    → result_cell (Kronecker op) a b c is js (i * b.rows + k) (j * b.cols + l)
    ≡ intersect op (a.cell i j) (b.cell k l)
place_cell op a b c is js i j k l h g = rw (digits_div i h, digits_mod i h, digits_div j g, digits_mod j g)
