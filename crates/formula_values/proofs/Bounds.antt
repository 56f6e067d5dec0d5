-- The value of a formula over grids within the limits is within them.
use Prim.Native.Nat.{ℕ}
use mathlib.Core.Path.{◌≡◌, refl}
use mathlib.Core.Bool.{Bool, true, false}
use borrow.Author.Tests.{leb-true}
use Rattle.limits.specs.Limits.{max_rows, max_cols}
use Rattle.limits.specs.Ranges.{InRange}
use Rattle.operators.specs.declared.BinaryOp.{BinaryOp}
use Rattle.operators.specs.declared.Monoid.{Monoid}
use Rattle.grid.specs.Grid.{Grid}
use Rattle.grid.specs.Size.{Within}
use Rattle.operations.specs.declared.Operation.{Operation}
use Rattle.formula_texts.specs.Trees.{Formula}
use Rattle.formula_texts.proofs.Related.{related}
use Rattle.formula_values.specs.Values.{
  Value,
  worth,
  fails,
  step_grid,
  step_agrees,
  step_fits,
  outcome,
  step,
  sum_of,
  product_of,
  formula_value,
}

-- a grid within the limits, or a failure
abbrev pub WithinValue : Value → Type 0
WithinValue (worth g) = Within g
WithinValue (fails x) = Unit {0}

-- a step on two grids, where T's shape is within the limits
pub outcome_within : (op : Operation) (a b : Grid) → InRange max_rows (step_grid op a b).rows
    → InRange max_cols (step_grid op a b).cols
    → WithinValue (outcome (step_agrees op a b) (step_fits op a b) (step_grid op a b))
outcome_within op a b r c = by (step_agrees op a b) (step_fits op a b) refl
  where
    by : (x y : Bool) → step_fits op a b ≡ y → WithinValue (outcome x y (step_grid op a b))
    by false y e = tt
    by true false e = tt
    by true true e = record { row_range = r; col_range = c; few = leb-true _ _ e }

-- a sum
pub sum_within : (monoid : Monoid) (v w : Value) → WithinValue v → WithinValue w → WithinValue (step (sum_of monoid) v w)
sum_within monoid (worth a) (worth b) h k = outcome_within (sum_of monoid) a b h.row_range h.col_range
sum_within monoid (worth a) (fails x) h k = tt
sum_within monoid (fails x) w h k = tt

-- a product
pub product_within : (monoid : Monoid) (op : BinaryOp) (v w : Value) → WithinValue v → WithinValue w
    → WithinValue (step (product_of monoid op) v w)
product_within monoid op (worth a) (worth b) h k =
    outcome_within (product_of monoid op) a b h.row_range k.col_range
product_within monoid op (worth a) (fails x) h k = tt
product_within monoid op (fails x) w h k = tt

-- a formula
pub value_within : (monoid : Monoid) (op : BinaryOp) (slot : ℕ → Value) → ((n : ℕ) → WithinValue (slot n))
    → (f : Formula) → WithinValue (formula_value monoid op slot f)
value_within monoid op slot h f =
    related {B = Value} (λ v w. WithinValue v) slot (step (sum_of monoid)) (step (product_of monoid op)) slot
    (step (sum_of monoid)) (step (product_of monoid op)) h (λ a b a' b' r q. sum_within monoid a b r q)
    (λ a b a' b' r q. product_within monoid op a b r q) f
