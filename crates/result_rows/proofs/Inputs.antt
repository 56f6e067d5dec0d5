-- What each operation's row needs, from what is known of the call's inputs.
use Prim.Native.Nat.{ℕ, ◌≤◌, ◌<◌}
use native.Mathlib.Omega.{arith}
use mathlib.Core.Path.{◌≡◌, refl, sym, ap, ◌∙◌, fun_ext}
use mathlib.Core.List.{List, []}
use mathlib.Core.Bool.{true, not, false≢true}
use lib.ListN.{length, length-take}
use borrow.Author.Tests.{eqb-true, eq-eqb}
use Rattle.limits.specs.Limits.{max_cols}
use Rattle.words.specs.Words.{at}
use Rattle.conditions.proofs.Tests.{and_left, and_right, all_at}
use Rattle.grid.specs.Grid.{Grid}
use Rattle.rows.specs.Row.{Row, lookup}
use Rattle.matrix.specs.Layout.{rows, cols, row_columns, row_values, cell_of}
use Rattle.matrix.specs.Facts.{Matrix, RowSpan}
use Rattle.matrix.proofs.Facts.{matrix_made, row_span}
use Rattle.encoding.proofs.Canonical.{valid_row}
use Rattle.operators.specs.declared.BinaryOp.{BinaryOp}
use Rattle.operators.specs.declared.Monoid.{Monoid}
use Rattle.operations.specs.Accumulator.{Accumulator}
use Rattle.operations.specs.declared.Operation.TheVariants.{Mxm, EwiseMult, EwiseAdd, Extract, Assign, Kronecker}
use Rattle.operations.specs.Calls.{index_fits, list_valid}
use Rattle.operations.proofs.Lists.{list_facts}
use Rattle.extract_rows.specs.Indices.{Indices, Inverses}
use Rattle.result_rows.specs.RowInputs.{
  RowInputs,
  Buffers,
  ProductInputs,
  PairInputs,
  ListInputs,
  AssignInputs,
  BlockInputs,
}

-- a row of a valid matrix, and where it lies
pub matrix_row : (s : List ℕ) → Matrix s → (i : ℕ) → i < rows s → Row (cols s) (row_columns s i) (row_values s i)
matrix_row s m i l = valid_row s (matrix_made s m) i l

pub matrix_span : (s : List ℕ) → Matrix s → (i : ℕ) → i < rows s → RowSpan s i
matrix_span s m i l = row_span s m.starts i l

-- the cells of a row, as its two parts give them
pub cell_row : (s : List ℕ) (i : ℕ) → cell_of s i ≡ lookup (row_columns s i) (row_values s i)
unfolding cell_of
cell_row s i = fun_ext (λ j. refl)

-- a row without entries
pub empty_row : (n : ℕ) → Row n [] []
empty_row n = record {
  even = refl;
  rises = record { up = λ a b l m. absurd (omega arith) };
  small = λ a l. absurd (omega arith);
}

-- a row of fewer columns
pub wider_row : {n m : ℕ} {cs vs : List ℕ} → n ≤ m → Row n cs vs → Row m cs vs
wider_row h r = record { even = r.even; rises = r.rises; small = λ a l. let s = r.small a l in omega arith }

-- an index of a valid list does not stand before
pub list_once : (n : ℕ) (l : List ℕ) → list_valid n l ≡ true → (a b : ℕ) → a < b → b < length l → at l a ≡ at l b → ⊥
unfolding list_valid
list_once n l h a b m k e =
    let fits = all_at (index_fits n l) (length l) b k (and_right _ _ (and_right _ _ h)) in
    let new = all_at _ b a m (and_right _ _ fits) in
    false≢true (sym (ap not (eq-eqb (at l a) (at l b) e)) ∙ new)

-- a valid list of columns
pub list_indices : (n : ℕ) (l : List ℕ) → n ≤ max_cols → list_valid n l ≡ true → Indices l
list_indices n l m h =
    let f = list_facts n l h in
    record {
      few = omega (arith, f.most);
      index = λ k b. omega (arith, f.below k b);
      once = list_once n l h;
    }

-- there is a word for each column in the first of two inverses
inverses_long : {is js inv : List ℕ} → Inverses is js inv → max_cols ≤ length inv
inverses_long {inv = inv} v = omega (arith, length-take max_cols inv, v.columns.sized)

module _ (a b c is js : List ℕ) (i : ℕ) where
  pub product_inputs : (monoid : Monoid) (op : BinaryOp) → RowInputs (Mxm monoid op) a b c is js i → ProductInputs a b i
  product_inputs monoid op h = record {
    first = h.first;
    second = h.second refl;
    inner = sym (eqb-true _ _ (and_left _ _ (and_right _ _ h.agree)));
    row = h.row;
  }

  pub mult_inputs : (op : BinaryOp) → RowInputs (EwiseMult op) a b c is js i → PairInputs a b i
  mult_inputs op h = record {
    first = h.first;
    second = h.second refl;
    same_rows = sym (eqb-true _ _ (and_left _ _ (and_right _ _ h.agree)));
    same_cols = sym (eqb-true _ _ (and_right _ _ (and_right _ _ h.agree)));
    row = h.row;
  }

  pub add_inputs : (op : BinaryOp) → RowInputs (EwiseAdd op) a b c is js i → PairInputs a b i
  add_inputs op h = record {
    first = h.first;
    second = h.second refl;
    same_rows = sym (eqb-true _ _ (and_left _ _ (and_right _ _ h.agree)));
    same_cols = sym (eqb-true _ _ (and_right _ _ (and_right _ _ h.agree)));
    row = h.row;
  }

  pub list_inputs : RowInputs Extract a b c is js i → ListInputs a b is js i
  list_inputs h =
      let r = list_facts _ _ (and_left _ _ h.lists) in
      record {
        first = h.first;
        row = h.row;
        listed = r.below i h.row;
        indices = list_indices _ _ h.first.header.col_range.most (and_right _ _ h.lists);
        long = inverses_long (h.inverses refl);
        inverse = (h.inverses refl).columns;
      }

  pub assign_inputs : (accumulator : Accumulator) → RowInputs (Assign accumulator) a b c is js i
      → AssignInputs a b c is js i
  assign_inputs accumulator h =
      let v = h.inverses refl in
      let height = h.output.header.row_range.most in
      record {
        first = h.first;
        output = h.output;
        row = h.row;
        same_rows = eqb-true _ _ (and_left _ _ (and_left _ _ h.agree));
        same_cols = eqb-true _ _ (and_right _ _ (and_left _ _ h.agree));
        rows_listed = record {
          indices = list_indices _ _ (omega arith) (and_left _ _ h.lists);
          below = (list_facts _ _ (and_left _ _ h.lists)).below;
          inverse = v.rows;
        };
        cols_listed = record {
          indices = list_indices _ _ h.output.header.col_range.most (and_right _ _ h.lists);
          below = (list_facts _ _ (and_right _ _ h.lists)).below;
          inverse = v.columns;
        };
      }

  pub block_inputs : (op : BinaryOp) → RowInputs (Kronecker op) a b c is js i → BlockInputs a b i
  block_inputs op h = record { first = h.first; second = h.second refl; row = h.row }

-- buffers for a row of T, said of their lengths
pub buffers : {g : Grid} {oc ov : List ℕ} → Buffers g oc ov → (g.cols ≤ length oc) × (g.cols ≤ length ov)
buffers h = (h.columns, h.values)
