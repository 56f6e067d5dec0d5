-- What the rows of T need of the inputs, which are valid matrices as their flags ask.
use Rattle.std.specs.Prelude.{ℕ, ◌*◌, ◌≤◌, ◌<◌, ◌≡◌, List, true, length, take, drop, None}
use Rattle.limits.specs.Limits.{max_cols}
use Rattle.words.specs.Words.{at}
use Rattle.grid.specs.Cell.{Cell}
use Rattle.grid.specs.Grid.{Grid}
use Rattle.operations.specs.declared.Operation.{Operation}
use Rattle.operations.specs.declared.Needs.{Needs}
use Rattle.operations.specs.declared.Shapes.{Shapes}
use Rattle.operations.specs.GridOperations.{needs_of, shapes_of}
use Rattle.operations.specs.Calls.{has_second, has_lists, inputs_agree, lists_valid}
use Rattle.extract_rows.specs.Indices.{Indices, Inverse, Inverses}
use Rattle.assign_rows.specs.Assigned.{Listed}
use Rattle.matrix.specs.Layout.{rows, cols, grid_of}
use Rattle.matrix.specs.Facts.{Matrix}

-- the shapes of matrices in words, and what the operation asks of them
abbrev pub row_shapes : Operation → List ℕ → List ℕ → List ℕ → List ℕ → List ℕ → Shapes
row_shapes op a b c is js = shapes_of op (grid_of a) (grid_of b) (grid_of c) is js

abbrev pub row_needs : Operation → List ℕ → List ℕ → List ℕ → List ℕ → List ℕ → Needs
row_needs op a b c is js = needs_of op (row_shapes op a b c is js)

-- the matrices that the operation has are valid, their shapes and the lists agree, and T has row i; where there are
-- lists the words b are their inverses
pub record RowInputs (op : Operation) (a b c is js : List ℕ) (i : ℕ) : Type 0 where
  pub first : Matrix a
  pub second : has_second op ≡ true → Matrix b
  pub inverses : has_lists op ≡ true → Inverses is js b
  pub output : Matrix c
  pub agree : inputs_agree (row_shapes op a b c is js) (row_needs op a b c is js) ≡ true
  pub lists : lists_valid op (row_needs op a b c is js).bounds is js ≡ true
  pub row : i < (row_needs op a b c is js).result.rows

-- two buffers that can hold a row of g
pub record Buffers (g : Grid) (oc ov : List ℕ) : Type 0 where
  pub columns : g.cols ≤ length oc
  pub values : g.cols ≤ length ov

pub record ProductInputs (a b : List ℕ) (i : ℕ) : Type 0 where
  pub first : Matrix a
  pub second : Matrix b
  pub inner : cols a ≡ rows b
  pub row : i < rows a

pub record PairInputs (a b : List ℕ) (i : ℕ) : Type 0 where
  pub first : Matrix a
  pub second : Matrix b
  pub same_rows : rows a ≡ rows b
  pub same_cols : cols a ≡ cols b
  pub row : i < rows a

pub record ListInputs (a b is js : List ℕ) (i : ℕ) : Type 0 where
  pub first : Matrix a
  pub row : i < length is
  pub listed : at is i < rows a
  pub indices : Indices js
  pub long : max_cols ≤ length b
  pub inverse : Inverse js (take max_cols b)

pub record AssignInputs (a b c is js : List ℕ) (i : ℕ) : Type 0 where
  pub first : Matrix a
  pub output : Matrix c
  pub row : i < rows c
  pub same_rows : rows a ≡ length is
  pub same_cols : cols a ≡ length js
  pub rows_listed : Listed (rows c) is (drop max_cols b)
  pub cols_listed : Listed (cols c) js (take max_cols b)

pub record BlockInputs (a b : List ℕ) (i : ℕ) : Type 0 where
  pub first : Matrix a
  pub second : Matrix b
  pub row : i < rows a * rows b

-- a mask's cell where there is no mask
abbrev pub no_cell : Cell
no_cell = None
