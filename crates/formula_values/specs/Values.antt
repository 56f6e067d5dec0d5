-- What a formula is worth on plain grids (document 02, A8): "One semiring is named: * is the product, + the union under
-- the monoid's operator, both from left to right, no mask, no accumulator."
use Rattle.std.specs.Prelude.{ℕ, Bool, true, false, [], leb}
use Rattle.limits.specs.Limits.{max_entries}
use Rattle.answers.specs.Refusals.{invalid_shape, too_many_entries}
use Rattle.operators.specs.declared.BinaryOp.{BinaryOp}
use Rattle.operators.specs.declared.Monoid.{Monoid}
use Rattle.operators.specs.Operators.{monoid_op}
use Rattle.grid.specs.Grid.{Grid, empty_grid}
use Rattle.grid.specs.Entries.{entry_count}
use Rattle.operations.specs.declared.Operation.{Operation}
use Rattle.operations.specs.declared.Operation.TheVariants.{Mxm, EwiseAdd}
use Rattle.operations.specs.GridOperations.{needs_of, shapes_of, result_grid}
use Rattle.operations.specs.Calls.{inputs_agree}
use Rattle.formula_texts.specs.Trees.{Formula}
use Rattle.formula_texts.specs.Values.{value}

-- why a step fails: "the first failing step's 8 or 10"
pub data Failure : Type 0 where
  disagree : Failure
  overfull : Failure

-- a grid, or the failure of the first failing step
pub data Value : Type 0 where
  worth : Grid → Value
  fails : Failure → Value

-- the refusal of a value, or 0
abbrev pub value_code : Value → ℕ
value_code (worth g) = 0
value_code (fails disagree) = invalid_shape
value_code (fails overfull) = too_many_entries

-- the grid of a value that is one. Of a failure it is never used: 8 and 10 come before.
abbrev pub value_grid : Value → Grid
value_grid (worth g) = g
value_grid (fails x) = empty_grid 0 0

-- one step on two grids: T itself, with no mask, no accumulator and no old C
abbrev pub step_grid : Operation → Grid → Grid → Grid
step_grid op a b = result_grid op a b a [] []

-- not 8: for the product as many columns on the left as rows on the right, for the union one shape
abbrev pub step_agrees : Operation → Grid → Grid → Bool
step_agrees op a b = inputs_agree (shapes_of op a b a [] []) (needs_of op (shapes_of op a b a [] []))

-- not 10: "Each step's sheet counts for 10."
abbrev pub step_fits : Operation → Grid → Grid → Bool
step_fits op a b = leb (entry_count (step_grid op a b)) max_entries

-- 8 comes before 10
abbrev pub outcome : (agrees fits : Bool) → Grid → Value
outcome false fits g = fails disagree
outcome true false g = fails overfull
outcome true true g = worth g

-- a step on two values: a failure on the left comes before one on the right, and both before the step's own
abbrev pub step : Operation → Value → Value → Value
step op (fails x) y = fails x
step op (worth a) (fails x) = fails x
step op (worth a) (worth b) = outcome (step_agrees op a b) (step_fits op a b) (step_grid op a b)

-- "+ the union under the monoid's operator"
abbrev pub sum_of : Monoid → Operation
sum_of monoid = EwiseAdd (monoid_op monoid)

-- "* is the product"
abbrev pub product_of : Monoid → BinaryOp → Operation
product_of monoid op = Mxm monoid op

-- the value of a formula, of what its digits are worth
abbrev pub formula_value : Monoid → BinaryOp → (ℕ → Value) → Formula → Value
formula_value monoid op slot f = value slot (step (sum_of monoid)) (step (product_of monoid op)) f
