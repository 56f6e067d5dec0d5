-- `lower_bound` halves the range: the columns before `low` are below j, and those from `high` on are not.
use native.Mathlib.Omega.{arith}
use Rattle.rows.specs.Looks.{middle}
use Rattle.rows.proofs.Halving.{left_start, left_right, left_left, left_end}
use Rattle.rows.proofs.Search.{below_mid, not_below_mid, position_found}
use Rattle.rows.proofs.lower_bound.Goals as goal

pub loop-low-init : goal.loop-low-init
loop-low-init c = (
  omega arith,
  omega arith,
  c.requires,
  (λ k h. absurd (omega arith)),
  (λ k h l. absurd (omega arith)),
  left_start _ _,
)

pub look-seen-requires : goal.look-seen-requires
look-seen-requires c = let l = c.loop-low.invariant.5.few in (omega arith, omega arith)

pub loop-low-preserved-then-seen-j : goal.loop-low-preserved-then-seen-j
loop-low-preserved-then-seen-j c =
    let v = c.loop-low.invariant in (
      omega arith,
      omega arith,
      v.2,
      below_mid _ _ (middle c.loop-low.low c.loop-low.high) v.2 (omega arith) (rw c.look-seen.ensures.0 at c.if-seen-j.true),
      v.4,
      rw c.look-seen.ensures.1 (left_right v.5 (omega arith) (rw c.look-seen.ensures.0 at c.if-seen-j.true)),
    )

pub loop-low-preserved : goal.loop-low-preserved
loop-low-preserved c =
    let v = c.loop-low.invariant in (
      omega arith,
      omega arith,
      v.2,
      v.3,
      not_below_mid _ _ (middle c.loop-low.low c.loop-low.high) v.2 (rw c.look-seen.ensures.0 at c.if-seen-j.false),
      rw c.look-seen.ensures.1 (left_left v.5 (omega arith) (rw c.look-seen.ensures.0 at c.if-seen-j.false)),
    )

pub returns : goal.returns
returns c =
    let v = c.loop-low.invariant in
    record {
      found = position_found _ _ _ (omega arith) v.3 (λ k h. v.4 k (omega arith));
      counted = left_end v.5 (omega arith);
    }
