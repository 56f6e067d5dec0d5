-- "Whether there is a mask or an accumulator is said apart from its words or number."
use Rattle.std.specs.Prelude.{Option}
use Rattle.operators.specs.declared.BinaryOp.{BinaryOp}

abbrev pub Accumulator : Type 0
Accumulator = Option BinaryOp
