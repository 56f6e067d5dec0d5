-- `read_refusal` asks for the refusals in their order.
use native.Mathlib.Omega.{arith}
use Rattle.conditions.proofs.Tests.{said_yes}
use Rattle.matrix.proofs.Facts.{matrix_facts}
use Rattle.day_requests.proofs.Readiness.{day_matrix, marks_matrix}
use Rattle.day_requests.proofs.read_refusal.Goals as goal

pub bounds-base-3 : goal.bounds-base-3
bounds-base-3 c = let m = matrix_facts _ (said_yes c.is_valid.ensures c.if-not-is_valid.false) in omega arith

pub bounds-base-4 : goal.bounds-base-4
bounds-base-4 c = let m = matrix_facts _ (said_yes c.is_valid.ensures c.if-not-is_valid.false) in omega arith

pub same_shape-requires-clause-base_header : goal.same_shape-requires-clause-base_header
same_shape-requires-clause-base_header c = (matrix_facts _ (said_yes c.is_valid.ensures c.if-not-is_valid.false)).header

pub same_shape-requires-clause-day_header : goal.same_shape-requires-clause-day_header
same_shape-requires-clause-day_header c = (day_matrix _ _ c.in_ok-day_refusal.ensures).header

pub is_vector-requires : goal.is_vector-requires
is_vector-requires c = (marks_matrix _ _ c.in_ok-day_refusal.ensures).header
