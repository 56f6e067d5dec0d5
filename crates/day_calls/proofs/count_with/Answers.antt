-- `count_with` counts within the limits: the row's own entries are among all.
use native.Mathlib.Omega.{arith}
use Rattle.matrix.proofs.Facts.{row_span}
use Rattle.day_calls.proofs.count_with.Goals as goal

pub overflow_add-result-3 : goal.overflow_add-result-3
overflow_add-result-3 c = let x = row_span _ c.requires.matrix.starts _ c.requires.row in omega arith

pub overflow_sub-result : goal.overflow_sub-result
overflow_sub-result c = let x = row_span _ c.requires.matrix.starts _ c.requires.row in omega arith
