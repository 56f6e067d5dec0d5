-- What each operation is, on plain grids (document 01, "The six operations", and document 02, A4 and A14): which inputs it
-- has, the shapes that it asks for, and T: "T is worked out first, in every place (i, j)". Whatever else depends on the
-- operation follows from these.
use Rattle.std.specs.Prelude.{ℕ, ◌*◌, ◌/◌, ◌%◌, List, Bool, true, false, cond, length}
use Rattle.words.specs.Words.{at}
use Rattle.grid.specs.Cell.{Cell}
use Rattle.grid.specs.Grid.{Grid}
use Rattle.reductions.specs.Reductions.{reduced_row}
use Rattle.operations.specs.CellOperations.{
  intersect,
  unite,
  dot,
  apply_cell,
  select_cell,
  assigned_cell,
  unlisted_cell,
}
use Rattle.operations.specs.declared.Operation.{Operation}
use Rattle.operations.specs.declared.Operation.TheVariants.{
  Mxm,
  EwiseMult,
  EwiseAdd,
  Apply,
  Extract,
  Select,
  ReduceRows,
  Assign,
  Kronecker,
}
use Rattle.operations.specs.declared.Inputs.{Inputs}
use Rattle.operations.specs.declared.Shape.{Shape}
use Rattle.operations.specs.declared.Shapes.{Shapes}
use Rattle.operations.specs.declared.Needs.{Needs}
use Rattle.operations.specs.declared.Part.{Part}
use Rattle.operations.specs.declared.Part.TheVariants as part
use Rattle.operations.specs.declared.Rules.{Rules}

-- a grid with rows and columns exchanged
abbrev pub transposed : Grid → Grid
transposed g = record { rows = g.cols; cols = g.rows; cell = λ i j. g.cell j i }

-- an input as its transpose flag asks
abbrev pub oriented : Bool → Grid → Grid
oriented true g = transposed g
oriented false g = g

infixr 30 ◌by◌
-- rows by columns
abbrev pub ◌by◌ : ℕ → ℕ → Shape
◌by◌ r c = record { rows = r; cols = c }

-- which inputs an operation has beside the first
abbrev pub inputs_of : Operation → Inputs
inputs_of (Mxm monoid op) = record { second = true; lists = false }
inputs_of (EwiseMult op) = record { second = true; lists = false }
inputs_of (EwiseAdd op) = record { second = true; lists = false }
inputs_of (Apply op) = record { second = false; lists = false }
inputs_of Extract = record { second = false; lists = true }
inputs_of (Select op) = record { second = false; lists = false }
inputs_of (ReduceRows monoid) = record { second = false; lists = false }
inputs_of (Assign accumulator) = record { second = false; lists = true }
inputs_of (Kronecker op) = record { second = true; lists = false }

-- What it asks for: the shapes that both inputs have to have, the bounds of the indexes, and T's shape, each by what it is
-- made of. An input that may have any shape is asked for its own; the bounds matter where there are lists.
abbrev pub rules : Part → Part → Part → Part → Rules
rules first second bounds result = record { first = first; second = second; bounds = bounds; result = result }

abbrev pub rules_of : Operation → Rules
-- "A(i,k) and B(k,j)": A has as many columns as B has rows
rules_of (Mxm monoid op) = rules part.First part.Inner part.First part.Outer
-- "where both are present": one shape
rules_of (EwiseMult op) = rules part.First part.First part.First part.First
rules_of (EwiseAdd op) = rules part.First part.First part.First part.First
rules_of (Apply op) = rules part.First part.Second part.First part.First
-- "T(i,j) = A(I[i], J[j])"; an index "past A (as transposed)" is refused
rules_of Extract = rules part.First part.Second part.First part.Lists
rules_of (Select op) = rules part.First part.Second part.First part.First
-- "rows into a strip 1 by R"
rules_of (ReduceRows monoid) = rules part.First part.Second part.First part.OfRows
-- "A (as transposed) has the list lengths as its shape, and that need not be C's shape"; "7 is counted against C and not
-- against A"
rules_of (Assign accumulator) = rules part.Lists part.Second part.Output part.Output
-- "entry (i·p + k, j·q + l) from A(i,j) and a p by q B(k,l)". C has at most 1,000 rows and columns, so a shape that "goes
-- past 1,000 either way" is never C's.
rules_of (Kronecker op) = rules part.First part.Second part.First part.Blocks

-- the shape that a part names, of the shapes of a call: those of the inputs as their flags ask and of the old C, and the
-- lengths of the lists
abbrev pub part_shape : Part → Shapes → Shape
part_shape part.First s = s.first
part_shape part.Second s = s.second
part_shape part.Inner s = s.first.cols by s.second.cols
part_shape part.Outer s = s.first.rows by s.second.cols
part_shape part.Lists s = s.lists
part_shape part.Output s = s.output
part_shape part.OfRows s = 1 by s.first.rows
part_shape part.Blocks s = s.first.rows * s.second.rows by s.first.cols * s.second.cols

-- what it asks of the shapes of a call
abbrev pub needs_of : Operation → Shapes → Needs
needs_of op s = record {
  first = part_shape (rules_of op).first s;
  second = part_shape (rules_of op).second s;
  bounds = part_shape (rules_of op).bounds s;
  result = part_shape (rules_of op).result s;
}

-- the cell of T at (i, j): of both inputs as their flags ask, the old C, and the index lists
abbrev pub result_cell : Operation → Grid → Grid → Grid → List ℕ → List ℕ → ℕ → ℕ → Cell
-- the product, and the strip times a sheet with the strip as first input
result_cell (Mxm monoid op) a b c is js i j = dot monoid op a.cols (a.cell i) (λ k. b.cell k j)
-- the intersection
result_cell (EwiseMult op) a b c is js i j = intersect op (a.cell i j) (b.cell i j)
-- the union
result_cell (EwiseAdd op) a b c is js i j = unite op (a.cell i j) (b.cell i j)
-- apply, with the row and column numbers of the input as its flag asks (document 02, A5: "An entry stored at (2, 5) of a
-- transposed input has row 5 and column 2")
result_cell (Apply op) a b c is js i j = apply_cell op i j (a.cell i j)
-- "T(i,j) = A(I[i], J[j])"
result_cell Extract a b c is js i j = a.cell (at is i) (at js j)
-- select, with row and column as for apply
result_cell (Select op) a b c is js i j = select_cell op i j (a.cell i j)
-- column j of the strip has the total of row j
result_cell (ReduceRows monoid) a b c is js i j = reduced_row monoid a.cols (a.cell j)
-- assign: A(k,l) at the place (I[k], J[l]), "A's emptiness too"
result_cell (Assign accumulator) a b c is js i j = assigned_cell is js a.cell (unlisted_cell accumulator (c.cell i j)) i j
-- the Kronecker product: place (i·p + k, j·q + l) by A(i,j) and B(k,l), where B is p by q
result_cell (Kronecker op) a b c is js i j =
    intersect op (a.cell (i / b.rows) (j / b.cols)) (b.cell (i % b.rows) (j % b.cols))

-- the shape of a grid
abbrev pub shape_of : Grid → Shape
shape_of g = g.rows by g.cols

-- stands for the shape of a second input where there is none
abbrev pub no_shape : Shape
no_shape = 0 by 0

-- the shapes of an operation on the inputs a and b as their flags ask, with the old C and the lists
abbrev pub shapes_of : Operation → Grid → Grid → Grid → List ℕ → List ℕ → Shapes
shapes_of op a b c is js = record {
  first = shape_of a;
  second = cond (inputs_of op).second (shape_of b) no_shape;
  output = shape_of c;
  lists = length is by length js;
}

-- T: its shape and its cells
abbrev pub result_grid : Operation → Grid → Grid → Grid → List ℕ → List ℕ → Grid
result_grid op a b c is js = record {
  rows = (needs_of op (shapes_of op a b c is js)).result.rows;
  cols = (needs_of op (shapes_of op a b c is js)).result.cols;
  cell = result_cell op a b c is js;
}
