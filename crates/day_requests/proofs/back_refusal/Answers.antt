-- `back_refusal` asks for the refusals in their order.
use native.Mathlib.Omega.{arith}
use Rattle.day_requests.proofs.Readiness.{day_matrix, marks_matrix}
use Rattle.day_requests.proofs.back_refusal.Goals as goal

pub bounds-day-3 : goal.bounds-day-3
bounds-day-3 c = let m = day_matrix _ _ c.in_ok-day_refusal.ensures in omega arith

pub is_vector-requires : goal.is_vector-requires
is_vector-requires c = (marks_matrix _ _ c.in_ok-day_refusal.ensures).header
