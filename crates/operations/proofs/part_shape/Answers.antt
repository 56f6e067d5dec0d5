-- `part_shape` is the shape that the part names.
use native.Mathlib.Omega.{arith}
use Rattle.operations.proofs.Blocks.{blocks_most}
use Rattle.operations.proofs.part_shape.Goals as goal

pub overflow_mul-result : goal.overflow_mul-result
overflow_mul-result c = omega (arith, blocks_most _ _ c.requires.first_small.0 c.requires.second_small.0)

pub overflow_mul-result-in-Blocks : goal.overflow_mul-result-in-Blocks
overflow_mul-result-in-Blocks c = omega (arith, blocks_most _ _ c.requires.first_small.1 c.requires.second_small.1)

pub returns-in-Inner : goal.returns-in-Inner
returns-in-Inner c = rw c.in-Inner.is

pub returns-in-Outer : goal.returns-in-Outer
returns-in-Outer c = rw c.in-Outer.is

pub returns-in-OfRows : goal.returns-in-OfRows
returns-in-OfRows c = rw c.in-OfRows.is

pub returns-in-Blocks : goal.returns-in-Blocks
returns-in-Blocks c = rw c.in-Blocks.is
