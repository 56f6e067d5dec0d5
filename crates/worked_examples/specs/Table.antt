-- The table of document 01, "Worked sheets": P1 to P12. A comment at each row quotes its case and its result.
use Rattle.std.specs.Prelude.{ℕ, ◌+◌, List, [], ◌∷◌, Bool, true, false, ℤ, pos, neg_ℤ, None, Some}
use Rattle.operators.specs.declared.BinaryOp.{BinaryOp}
use Rattle.operators.specs.declared.BinaryOp.TheVariants.{Plus, Minus, Times}
use Rattle.operators.specs.declared.Monoid.{Monoid}
use Rattle.operators.specs.declared.Monoid.TheVariants as monoid
use Rattle.operators.specs.declared.IndexUnaryOp.TheVariants.{ColIndex}
use Rattle.operators.specs.declared.ApplyOp.{ApplyOp}
use Rattle.operators.specs.declared.ApplyOp.TheVariants.{BinaryScalarSecond, IndexUnary}
use Rattle.operations.specs.Accumulator.{Accumulator}
use Rattle.operations.specs.declared.Call.{Call}
use Rattle.operations.specs.declared.Operation.{Operation}
use Rattle.operations.specs.declared.Operation.TheVariants.{Mxm, EwiseMult, EwiseAdd, Apply, Extract}
use Rattle.operations.specs.Calls.{write_back_of}
use Rattle.worked_examples.specs.Listed.{Listed, entry, at, matrix, vector}
use Rattle.worked_examples.specs.Rows.{Row, called, written, none}

-- a call: its flags, whether there is a mask, the accumulator, whether the first input has to be a vector, and what
-- the call computes
abbrev call_with : ℕ → Bool → Accumulator → Bool → Operation → Call
call_with flags hasMask accumulator vectorFirst operation = record {
  flags = flags;
  known = true;
  operation = operation;
  vector_first = vectorFirst;
  has_mask = hasMask;
  accumulator = accumulator;
}

-- without flags, mask and accumulator: a vector times a matrix, any other operation, and apply
abbrev vxm : Monoid → BinaryOp → Call
vxm m op = call_with 0 false None true (Mxm m op)

abbrev plain : Operation → Call
plain operation = call_with 0 false None false operation

abbrev apply : ApplyOp → Call
apply op = plain (Apply op)

-- -n
abbrev neg : ℕ → ℤ
neg n = neg_ℤ (pos n)

-- "strip above": "The 1 by 4 strip with 10, 20, 40 at columns 0, 1, 3"
abbrev u : Listed
u = vector 4 (at 0 (pos 10) ∷ at 1 (pos 20) ∷ at 3 (pos 40) ∷ [])

-- "4 by 3 B: (0,1)3 (0,2)2 (1,0)9 (1,1)6 (2,1)3 (2,2)1 (3,0)0 (3,1)5"
abbrev b : Listed
b = matrix 4 3 (
    entry 0 1 (pos 3)
    ∷ entry 0 2 (pos 2)
    ∷ entry 1 0 (pos 9)
    ∷ entry 1 1 (pos 6)
    ∷ entry 2 1 (pos 3)
    ∷ entry 2 2 (pos 1)
    ∷ entry 3 0 (pos 0)
    ∷ entry 3 1 (pos 5)
    ∷ [])

-- one value, as a 1 by 1 matrix
abbrev single : ℤ → Listed
single v = matrix 1 1 (entry 0 0 v ∷ [])

-- "For P7 to P12, C is a 1 by 4 strip 0:1, 1:2, 2:3; T is 1:9, 3:9; the mask is 0:1, 1:0, 3:5."
abbrev c : Listed
c = vector 4 (at 0 (pos 1) ∷ at 1 (pos 2) ∷ at 2 (pos 3) ∷ [])

abbrev t : Listed
t = vector 4 (at 1 (pos 9) ∷ at 3 (pos 9) ∷ [])

abbrev mask : Listed
mask = vector 4 (at 0 (pos 1) ∷ at 1 (pos 0) ∷ at 3 (pos 5) ∷ [])

-- a row of P7 to P12. What the call computes has no part in its write-back: T is given.
abbrev write_back : ℕ → Bool → Accumulator → Listed → Row
write_back flags hasMask accumulator e =
    written (write_back_of (call_with flags hasMask accumulator false Extract)) mask c t e

-- "Flags add up: 1 replace, 2 complement the mask, 4 structural mask"
abbrev replace : ℕ
replace = 1

abbrev complement : ℕ
complement = 2

abbrev structural : ℕ
structural = 4

-- whether there is a mask
abbrev with_mask : Bool
with_mask = true

abbrev no_mask : Bool
no_mask = false

unfoldable pub table : List Row
table =
    -- P1: "strip above, PLUS with PLUS, times 4 by 3 B", "69, 84, 12"
    called (vxm monoid.Plus Plus) u b (vector 3 (at 0 (pos 69) ∷ at 1 (pos 84) ∷ at 2 (pos 12) ∷ []))
    -- P2: "strip above, MINUS, 15 second", "-5, 5, 25 at 0, 1, 3"
    ∷ called (apply (BinaryScalarSecond Minus 15)) u none (vector 4 (at 0 (neg 5) ∷ at 1 (pos 5) ∷ at 3 (pos 25) ∷ []))
    -- P3: "strip above, COLINDEX, s = 0", "0, 1, 3 at 0, 1, 3"
    ∷ called (apply (IndexUnary ColIndex 0)) u none (vector 4 (at 0 (pos 0) ∷ at 1 (pos 1) ∷ at 3 (pos 3) ∷ []))
    -- P4: "PLUS of 2147483647 and 1", "-2147483648"
    ∷ called (plain (EwiseAdd Plus)) (single (pos 2147483647)) (single (pos 1)) (single (neg 2147483648))
    -- P5: "TIMES of 46341 and 46341", "-2147479015"
    ∷ called (plain (EwiseMult Times)) (single (pos 46341)) (single (pos 46341)) (single (neg 2147479015))
    -- P6: "TIMES of 65536 and 65536", "an entry 0"
    ∷ called (plain (EwiseMult Times)) (single (pos 65536)) (single (pos 65536)) (single (pos 0))
    -- P7: "mask", "1:2, 2:3, 3:9"
    ∷ write_back 0 with_mask None (vector 4 (at 1 (pos 2) ∷ at 2 (pos 3) ∷ at 3 (pos 9) ∷ []))
    -- P8: "mask, replace", "3:9"
    ∷ write_back replace with_mask None (vector 4 (at 3 (pos 9) ∷ []))
    -- P9: "structural", "1:9, 2:3, 3:9"
    ∷ write_back structural with_mask None (vector 4 (at 1 (pos 9) ∷ at 2 (pos 3) ∷ at 3 (pos 9) ∷ []))
    -- P10: "complement", "0:1, 1:9"
    ∷ write_back complement with_mask None (vector 4 (at 0 (pos 1) ∷ at 1 (pos 9) ∷ []))
    -- P11: "mask, PLUS accumulator", "0:1, 1:2, 2:3, 3:9"
    ∷ write_back 0 with_mask (Some Plus) (vector 4 (at 0 (pos 1) ∷ at 1 (pos 2) ∷ at 2 (pos 3) ∷ at 3 (pos 9) ∷ []))
    -- P12: "no mask, complement, replace", "empty"
    ∷ write_back (complement + replace) no_mask None (vector 4 [])
    ∷ []
