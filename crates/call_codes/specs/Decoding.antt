-- The numbers of a call, decoded: "no such operator, monoid or accumulator" makes it unknown (refusal 2). The operator
-- that stands for an unknown number is never used.
use Rattle.std.specs.Prelude.{ℕ, ◌≡◌, Bool, true, false, cond, None, Option, Some, is_some, unwrap_or, option_map}
use Rattle.conditions.specs.Tests.{◌and◌}
use Rattle.operators.specs.declared.ApplyOp.{ApplyOp}
use Rattle.operators.specs.declared.ApplyOp.TheVariants.{Unary}
use Rattle.operators.specs.declared.BinaryOp.{BinaryOp}
use Rattle.operators.specs.declared.BinaryOp.TheVariants.{First}
use Rattle.operators.specs.declared.Monoid.{Monoid}
use Rattle.operators.specs.declared.Monoid.TheVariants.{Plus}
use Rattle.operators.specs.declared.UnaryOp.TheVariants.{Identity}
use Rattle.select_ops.specs.declared.SelectOp.{SelectOp}
use Rattle.select_ops.specs.declared.SelectOp.TheVariants.{ValueEq}
use Rattle.operator_codes.specs.Codes.{binary_numbered, monoid_numbered, apply_numbered, select_numbered}
use Rattle.operations.specs.Accumulator.{Accumulator}
use Rattle.operations.specs.declared.Call.{Call}
use Rattle.operations.specs.declared.Operation.{Operation}
use Rattle.operations.specs.declared.Operation.TheVariants.{
  Mxm,
  EwiseMult,
  EwiseAdd,
  Apply,
  Extract,
  Select,
  ReduceRows,
  Assign,
  Kronecker,
}
use Rattle.call_codes.specs.declared.Options.{Options}
use Rattle.call_codes.specs.declared.Verb.{Verb}
use Rattle.call_codes.specs.declared.Verb.TheVariants as verb

abbrev pub binary_of : Option BinaryOp → BinaryOp
binary_of code = unwrap_or code First

abbrev pub monoid_of : Option Monoid → Monoid
monoid_of code = unwrap_or code Plus

abbrev pub apply_of : Option ApplyOp → ApplyOp
apply_of code = unwrap_or code (Unary Identity)

abbrev pub select_of : Option SelectOp → SelectOp
select_of code = unwrap_or code (ValueEq 0)

-- "Whether there is a mask or an accumulator is said apart from its words or number": an absent one is never looked at
abbrev pub accumulator_known : Options → Bool
accumulator_known o = number_known o.accumulator
  where
    number_known : Option ℕ → Bool
    number_known None = true
    number_known (Some number) = is_some (binary_numbered number)

abbrev pub accumulator_of : Options → Accumulator
accumulator_of o = option_map (λ number. binary_of (binary_numbered number)) o.accumulator

-- a call, where the operator's own numbers are known or not
abbrev pub call_of : Options → Bool → Operation → Bool → Call
call_of o known operation vector = record {
  flags = o.flags;
  known = known and accumulator_known o;
  operation = operation;
  vector_first = vector;
  has_mask = o.has_mask;
  accumulator = accumulator_of o;
}

-- "a semiring is any monoid with any binary operator"
abbrev pub product_call : Bool → Options → ℕ → ℕ → Call
product_call vector o m op =
    call_of o (is_some (monoid_numbered m) and is_some (binary_numbered op))
    (Mxm (monoid_of (monoid_numbered m)) (binary_of (binary_numbered op))) vector

abbrev pub ewise_mult_call : Options → ℕ → Call
ewise_mult_call o op = call_of o (is_some (binary_numbered op)) (EwiseMult (binary_of (binary_numbered op))) false

abbrev pub ewise_add_call : Options → ℕ → Call
ewise_add_call o op = call_of o (is_some (binary_numbered op)) (EwiseAdd (binary_of (binary_numbered op))) false

abbrev pub apply_call : Options → ℕ → ℕ → ℕ → Call
apply_call o kind op s =
    call_of o (is_some (apply_numbered kind op s)) (Apply (apply_of (apply_numbered kind op s))) false

abbrev pub select_call : Options → ℕ → ℕ → Call
select_call o op s = call_of o (is_some (select_numbered op s)) (Select (select_of (select_numbered op s))) false

abbrev pub reduce_rows_call : Options → ℕ → Call
reduce_rows_call o m = call_of o (is_some (monoid_numbered m)) (ReduceRows (monoid_of (monoid_numbered m))) false

-- an assign is told the accumulator of its call
abbrev pub assign_call : Options → Call
assign_call o = call_of o true (Assign (accumulator_of o)) false

abbrev pub kronecker_call : Options → ℕ → Call
kronecker_call o op = call_of o (is_some (binary_numbered op)) (Kronecker (binary_of (binary_numbered op))) false

-- a call of any of them
abbrev pub decoded : Options → Verb → Call
decoded o (verb.Mxm m op) = product_call false o m op
decoded o (verb.Vxm m op) = product_call true o m op
decoded o (verb.EwiseMult op) = ewise_mult_call o op
decoded o (verb.EwiseAdd op) = ewise_add_call o op
decoded o (verb.Apply kind op s) = apply_call o kind op s
decoded o verb.Extract = call_of o true Extract false
decoded o (verb.Select op s) = select_call o op s
decoded o (verb.ReduceRows m) = reduce_rows_call o m
decoded o verb.Assign = assign_call o
decoded o (verb.Kronecker op) = kronecker_call o op

-- what a call with one binary operator decodes to, where `operation` tells the operation of an operator
abbrev pub BinaryCall : (BinaryOp → Operation → Type 0) → Options → ℕ → Call → Type 0
BinaryCall operation o op r =
    (x : _) × operation (binary_of (binary_numbered op)) x × (r ≡ call_of o (is_some (binary_numbered op)) x false)
