-- `rewrite_refusal` asks for the refusals in their order.
use native.Mathlib.Omega.{arith}
use Rattle.conditions.proofs.Tests.{said_yes}
use Rattle.matrix.proofs.Facts.{matrix_facts}
use Rattle.day_requests.proofs.Readiness.{day_matrix, marks_matrix}
use Rattle.day_requests.proofs.rewrite_refusal.Goals as goal

pub bounds-day-3 : goal.bounds-day-3
bounds-day-3 c = let m = day_matrix _ _ c.in_ok-day_refusal.ensures in omega arith

pub is_vector-requires : goal.is_vector-requires
is_vector-requires c = (marks_matrix _ _ c.in_ok-day_refusal.ensures).header

pub bounds-day-4 : goal.bounds-day-4
bounds-day-4 c = let m = day_matrix _ _ c.in_ok-day_refusal.ensures in omega arith

pub is_vector-requires-2 : goal.is_vector-requires-2
is_vector-requires-2 c = (matrix_facts _ (said_yes c.is_valid.ensures c.if-not-is_valid.false)).header
