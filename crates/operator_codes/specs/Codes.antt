-- The operators by number: document 01, "Operators". Each table lists what the numbers 0, 1, 2 and so on stand for; a
-- number past its end stands for none.
use Rattle.std.specs.Prelude.{◌≡◌, refl, List, [], ◌∷◌, ℕ, get_or, None, Option, Some}
use Rattle.select_ops.specs.declared.SelectOp.{SelectOp}
use Rattle.operators.specs.declared.ApplyOp.{ApplyOp}
use Rattle.operators.specs.declared.IndexUnaryOp.{IndexUnaryOp}
use Rattle.operators.specs.declared.UnaryOp.{UnaryOp}
use Rattle.operators.specs.declared.Monoid.{Monoid}
use Rattle.operators.specs.declared.BinaryOp.{BinaryOp}
use Rattle.operators.specs.declared.BinaryOp.TheVariants.{First, Second, Oneb, Plus, Minus, Times, Min, Max}
use Rattle.operators.specs.declared.Monoid.TheVariants as monoid_op_lem
use Rattle.operators.specs.declared.UnaryOp.TheVariants.{Identity, Ainv, Abs, Lnot, One}
use Rattle.operators.specs.declared.IndexUnaryOp.TheVariants.{RowIndex, ColIndex, DiagIndex}
use Rattle.operators.specs.declared.ApplyOp.TheVariants.{Unary, BinaryScalarFirst, BinaryScalarSecond, IndexUnary}
use Rattle.select_ops.specs.declared.SelectOp.TheVariants.{
  ValueEq,
  ValueNe,
  ValueLt,
  ValueLe,
  ValueGt,
  ValueGe,
  Tril,
  Triu,
}

-- "0, 1, 2 | FIRST, SECOND, ONEB", "3, 4, 5 | PLUS, MINUS, TIMES", "6, 7 | MIN, MAX"
abbrev pub binary_table : List (Option BinaryOp)
binary_table =
    Some First
    ∷ Some Second
    ∷ Some Oneb
    ∷ Some Plus
    ∷ Some Minus
    ∷ Some Times
    ∷ Some Min
    ∷ Some Max
    ∷ []

unfoldable pub binary_numbered : ℕ → Option BinaryOp
binary_numbered n = get_or binary_table n None

-- "Monoids are 3, 5, 6, 7": a monoid has the number of its binary operator
abbrev pub monoid_table : List (Option Monoid)
monoid_table =
    None
    ∷ None
    ∷ None
    ∷ Some monoid_op_lem.Plus
    ∷ None
    ∷ Some monoid_op_lem.Times
    ∷ Some monoid_op_lem.Min
    ∷ Some monoid_op_lem.Max
    ∷ []

unfoldable pub monoid_numbered : ℕ → Option Monoid
monoid_numbered n = get_or monoid_table n None

-- "Unary: 0 IDENTITY, 1 AINV, 2 ABS, 3 LNOT (zero gives 1, else 0), 4 ONE"
abbrev pub unary_table : List (Option UnaryOp)
unary_table =
    Some Identity
    ∷ Some Ainv
    ∷ Some Abs
    ∷ Some Lnot
    ∷ Some One
    ∷ []

unfoldable pub unary_numbered : ℕ → Option UnaryOp
unary_numbered n = get_or unary_table n None

-- "Index-unary, with scalar s, wrapping: 0 ROWINDEX i+s, 1 COLINDEX j+s, 2 DIAGINDEX j-i+s"
abbrev pub index_unary_table : List (Option IndexUnaryOp)
index_unary_table = Some RowIndex ∷ Some ColIndex ∷ Some DiagIndex ∷ []

unfoldable pub index_unary_numbered : ℕ → Option IndexUnaryOp
index_unary_numbered n = get_or index_unary_table n None

-- Each kind of apply, of an operator that is known, with the scalar s.
abbrev pub unary_apply : Option UnaryOp → Option ApplyOp
unary_apply (Some op) = Some (Unary op)
unary_apply None = None

abbrev pub scalar_first : ℕ → Option BinaryOp → Option ApplyOp
scalar_first s (Some op) = Some (BinaryScalarFirst op s)
scalar_first s None = None

abbrev pub scalar_second : ℕ → Option BinaryOp → Option ApplyOp
scalar_second s (Some op) = Some (BinaryScalarSecond op s)
scalar_second s None = None

abbrev pub index_unary_apply : ℕ → Option IndexUnaryOp → Option ApplyOp
index_unary_apply s (Some op) = Some (IndexUnary op s)
index_unary_apply s None = None

-- "Apply: unary; binary with the scalar first; binary with the scalar second; index-unary". The document gives the
-- kinds no numbers: they are 0 to 3 in this order. An operator's number is read in its kind, and a kind above 3 has no
-- operator.
abbrev pub apply_table : ℕ → ℕ → List (Option ApplyOp)
apply_table number s =
    unary_apply (unary_numbered number)
    ∷ scalar_first s (binary_numbered number)
    ∷ scalar_second s (binary_numbered number)
    ∷ index_unary_apply s (index_unary_numbered number)
    ∷ []

unfoldable pub apply_numbered : ℕ → ℕ → ℕ → Option ApplyOp
apply_numbered kind number s = get_or (apply_table number s) kind None

-- document 02, A4: "equal, not equal, less, at most, greater, at least (value against s), lower triangle (j at most i+s) and
-- upper triangle (j at least i+s), .. numbered 0 to 7 in this order"
abbrev pub select_table : ℕ → List (Option SelectOp)
select_table s =
    Some (ValueEq s)
    ∷ Some (ValueNe s)
    ∷ Some (ValueLt s)
    ∷ Some (ValueLe s)
    ∷ Some (ValueGt s)
    ∷ Some (ValueGe s)
    ∷ Some (Tril s)
    ∷ Some (Triu s)
    ∷ []

unfoldable pub select_numbered : ℕ → ℕ → Option SelectOp
select_numbered n s = get_or (select_table s) n None

-- MINUS, number 4, is no monoid, and neither is a number above 7
no_monoid_minus : monoid_numbered 4 ≡ None
unfolding monoid_numbered
no_monoid_minus = refl

no_monoid_above : monoid_numbered 8 ≡ None
unfolding monoid_numbered
no_monoid_above = refl

-- the operator of P2: "MINUS, 15 second"
minus_fifteen_second : apply_numbered 2 4 15 ≡ Some (BinaryScalarSecond Minus 15)
unfolding apply_numbered binary_numbered
minus_fifteen_second = refl

-- the operator of P3: "COLINDEX, s = 0"
colindex_zero : apply_numbered 3 1 0 ≡ Some (IndexUnary ColIndex 0)
unfolding apply_numbered index_unary_numbered
colindex_zero = refl

-- an operator's number is known or not in its kind: 5 is TIMES, and no unary operator
no_unary_five : apply_numbered 0 5 0 ≡ None
unfolding apply_numbered unary_numbered
no_unary_five = refl

no_kind_four : apply_numbered 4 0 0 ≡ None
unfolding apply_numbered
no_kind_four = refl

-- the last condition, and the first number that is none
select_seven : select_numbered 7 9 ≡ Some (Triu 9)
unfolding select_numbered
select_seven = refl

no_select_eight : select_numbered 8 9 ≡ None
unfolding select_numbered
no_select_eight = refl
