-- "in each cell, a value or none": a value is kept as its word in two's complement.
use Rattle.std.specs.Prelude.{ℕ, Option}

abbrev pub Cell : Type 0
Cell = Option ℕ
