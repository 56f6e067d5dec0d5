-- Apply on values alone, for the operators that do not look at row and column numbers.
use Rattle.std.specs.Prelude.{ℕ, Bool, true, false}
use Rattle.operators.specs.declared.ApplyOp.{ApplyOp}
use Rattle.operators.specs.declared.ApplyOp.TheVariants.{Unary, BinaryScalarFirst, BinaryScalarSecond, IndexUnary}
use Rattle.operators.specs.Operators.{entry_word}

abbrev pub by_value : ApplyOp → Bool
by_value (Unary op) = true
by_value (BinaryScalarFirst op s) = true
by_value (BinaryScalarSecond op s) = true
by_value (IndexUnary op s) = false

-- what such an operator makes of a value, at any place
abbrev pub value_word : ApplyOp → ℕ → ℕ
value_word op x = entry_word op x 0 0
