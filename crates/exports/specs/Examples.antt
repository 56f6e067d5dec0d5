-- The options of a call as C sends them, computed.
use Rattle.std.specs.Prelude.{◌≡◌, refl, true, false, None, Some}
use Rattle.conditions.specs.Tests.{◌and◌}
use Rattle.operators.specs.declared.BinaryOp.TheVariants as binary
use Rattle.operator_codes.specs.Codes.{binary_numbered}
use Rattle.operations.specs.declared.Operation.TheVariants.{Assign}
use Rattle.call_codes.specs.declared.Verb.TheVariants as verb
use Rattle.call_codes.specs.Decoding.{decoded}
use Rattle.exports.specs.Exported.{options_of}

-- an absent accumulator's number is not looked at, though 9 is none; a present one's is
absent_unread : (decoded (options_of 5 1 0 9) (verb.EwiseAdd 4)).known ≡ true
unfolding ◌and◌ binary_numbered
absent_unread = refl

present_read : (decoded (options_of 5 1 1 9) (verb.EwiseAdd 4)).known ≡ false
unfolding ◌and◌ binary_numbered
present_read = refl

-- without an accumulator assign takes A's cells, whatever the number; any number other than 0 says that there is one
absent_assigned : (decoded (options_of 5 1 0 4) verb.Assign).operation ≡ Assign None
absent_assigned = refl

present_assigned : (decoded (options_of 5 1 7 4) verb.Assign).operation ≡ Assign (Some binary.Minus)
unfolding binary_numbered
present_assigned = refl
