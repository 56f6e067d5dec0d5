-- Calls decoded, computed.
use Rattle.std.specs.Prelude.{ℕ, ◌≡◌, refl, true, false, None, Option, Some}
use Rattle.conditions.specs.Tests.{◌and◌}
use Rattle.operators.specs.declared.BinaryOp.TheVariants as binary
use Rattle.operators.specs.declared.Monoid.TheVariants as monoid
use Rattle.select_ops.specs.declared.SelectOp.TheVariants.{ValueGe}
use Rattle.operator_codes.specs.Codes.{binary_numbered, monoid_numbered, select_numbered}
use Rattle.operations.specs.declared.Operation.TheVariants.{
  Mxm,
  EwiseMult,
  EwiseAdd,
  Select,
  ReduceRows,
  Assign,
  Kronecker,
}
use Rattle.call_codes.specs.declared.Options.{Options}
use Rattle.call_codes.specs.declared.Verb.TheVariants as verb
use Rattle.call_codes.specs.Decoding.{decoded}

-- an accumulator by its number, or none
abbrev options : Option ℕ → Options
options accumulator = record { flags = 5; has_mask = true; accumulator = accumulator }

-- a vector times a matrix, and a product: monoid and operator, and whether the first input is a vector
vector_product : decoded (options (Some 4)) (verb.Vxm 6 4)
    ≡ record {
      flags = 5;
      known = true;
      operation = Mxm monoid.Min binary.Minus;
      vector_first = true;
      has_mask = true;
      accumulator = Some binary.Minus;
    }
unfolding ◌and◌ binary_numbered monoid_numbered
vector_product = refl

matrix_product : (decoded (options None) (verb.Mxm 6 4)).vector_first ≡ false
matrix_product = refl

-- intersection and union
mult_decoded : (decoded (options None) (verb.EwiseMult 4)).operation ≡ EwiseMult binary.Minus
unfolding binary_numbered
mult_decoded = refl

add_decoded : (decoded (options None) (verb.EwiseAdd 4)).operation ≡ EwiseAdd binary.Minus
unfolding binary_numbered
add_decoded = refl

-- without an accumulator there is no number to look at (what C sends beside it: `exports/specs/Examples`); a present one's
-- is looked at; MINUS is no monoid
absent_known : (decoded (options None) (verb.EwiseAdd 4)).known ≡ true
unfolding ◌and◌ binary_numbered
absent_known = refl

accumulator_unknown : (decoded (options (Some 8)) (verb.EwiseAdd 4)).known ≡ false
unfolding ◌and◌ binary_numbered
accumulator_unknown = refl

monoid_unknown : (decoded (options None) (verb.Mxm 4 3)).known ≡ false
unfolding ◌and◌ binary_numbered monoid_numbered
monoid_unknown = refl

-- select with condition 5 and the scalar 9; condition 8 is none; the rows reduced by 6, and MINUS is no monoid there either
select_decoded : (decoded (options None) (verb.Select 5 9)).operation ≡ Select (ValueGe 9)
unfolding select_numbered
select_decoded = refl

select_unknown : (decoded (options None) (verb.Select 8 5)).known ≡ false
unfolding ◌and◌ select_numbered
select_unknown = refl

rows_decoded : (decoded (options None) (verb.ReduceRows 6)).operation ≡ ReduceRows monoid.Min
unfolding monoid_numbered
rows_decoded = refl

rows_unknown : (decoded (options None) (verb.ReduceRows 4)).known ≡ false
unfolding ◌and◌ monoid_numbered
rows_unknown = refl

-- an assign is told the accumulator, or that there is none, and has no operator of its own; a Kronecker product takes any
-- binary operator
assign_accumulated : (decoded (options (Some 4)) verb.Assign).operation ≡ Assign (Some binary.Minus)
unfolding binary_numbered
assign_accumulated = refl

assign_alone : (decoded (options None) verb.Assign).operation ≡ Assign None
assign_alone = refl

assign_unknown : (decoded (options (Some 8)) verb.Assign).known ≡ false
unfolding ◌and◌ binary_numbered
assign_unknown = refl

kronecker_decoded : (decoded (options None) (verb.Kronecker 4)).operation ≡ Kronecker binary.Minus
unfolding binary_numbered
kronecker_decoded = refl

kronecker_unknown : (decoded (options None) (verb.Kronecker 8)).known ≡ false
unfolding ◌and◌ binary_numbered
kronecker_unknown = refl
