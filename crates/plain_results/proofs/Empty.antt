-- Rows of T without entries, where the rows of the inputs have none.
use Rattle.std.proofs.Common.{None}
use Prim.Native.Nat.{ℕ, ◌<◌}
use mathlib.Core.Path.{◌≡◌, refl, sym, subst}
use mathlib.Core.List.{List}
use lib.ListN.{length}
use Rattle.rows.proofs.Walk.{absent_all}
use Rattle.matrix.specs.Layout.{rows, row_columns, row_values, cell_of, grid_of}
use Rattle.matrix.specs.Facts.{Header, RowSpan, Matrix}
use Rattle.matrix.proofs.Facts.{row_span}
use Rattle.operators.specs.declared.ApplyOp.{ApplyOp}
use Rattle.operators.specs.declared.BinaryOp.{BinaryOp}
use Rattle.operators.specs.declared.Monoid.{Monoid}
use Rattle.select_ops.specs.declared.SelectOp.{SelectOp}
use Rattle.operations.specs.declared.Operation.{Operation}
use Rattle.operations.specs.declared.Operation.TheVariants.{Mxm, EwiseMult, EwiseAdd, Apply, Select}
use Rattle.operations.specs.GridOperations.{result_grid}
use Rattle.result_rows.specs.RowInputs.{RowInputs}
use Rattle.products.proofs.Dot.{dot_none}
use Rattle.plain_results.specs.Rows.{EmptyRow}

-- what is needed goes by the operation that was matched
pub row_matched : {o p : Operation} {a b c is js : List ℕ} {i : ℕ} → o ≡ p → RowInputs o a b c is js i
    → RowInputs p a b c is js i
row_matched {a = a} {b} {c} {is} {js} {i} e h = subst (λ (x : Operation). RowInputs x a b c is js i) e h

-- row i of a matrix, and where it lies
pub spanned : {s : List ℕ} {i : ℕ} → Matrix s → i < rows s → Header s × RowSpan s i
spanned m l = (m.header, row_span _ m.starts _ l)

-- the cells of a row without entries
cells_none : (s : List ℕ) (i : ℕ) → length (row_columns s i) ≡ 0 → (j : ℕ) → cell_of s i j ≡ None
unfolding cell_of
cells_none s i e j = absent_all (row_columns s i) (row_values s i) e j

-- row i of T, for the operation o that was matched
module _ (a b c is js : List ℕ) (i : ℕ) (e : length (row_columns a i) ≡ 0) where
  abbrev Empty : Operation → Type 0
  Empty op = EmptyRow (result_grid op (grid_of a) (grid_of b) (grid_of c) is js) i

  pub product_none : {o : Operation} {monoid : Monoid} {op : BinaryOp} → o ≡ Mxm monoid op → Empty o
  product_none {monoid = monoid} {op} m = subst Empty (sym m) (λ j. dot_none monoid op _ _ _ (λ k l. cells_none a i e k))

  pub mult_none : {o : Operation} {op : BinaryOp} → o ≡ EwiseMult op → Empty o
  mult_none m = subst Empty (sym m) (λ j. rw (cells_none a i e j) refl)

  pub add_none : {o : Operation} {op : BinaryOp} → length (row_columns b i) ≡ 0 → o ≡ EwiseAdd op → Empty o
  add_none f m = subst Empty (sym m) (λ j. rw (cells_none a i e j, cells_none b i f j) refl)

  pub apply_none : {o : Operation} {op : ApplyOp} → o ≡ Apply op → Empty o
  apply_none m = subst Empty (sym m) (λ j. rw (cells_none a i e j) refl)

  pub select_none : {o : Operation} {op : SelectOp} → o ≡ Select op → Empty o
  select_none m = subst Empty (sym m) (λ j. rw (cells_none a i e j) refl)
