-- A stamp of the doors ends the round of the doors, and one of the keys the round of the keys.
use Rattle.std.proofs.Common.{ℕ, subst}
use native.Mathlib.Omega.{arith}
use native.Mathlib.Nat.{sub-add_cancel}
use Rattle.matrix.specs.Layout.{grid_of}
use Rattle.key_marks.specs.Marks.{held, Rounds}
use Rattle.key_marks.proofs.Steps.{doors_stamped, keys_stamped_at, lent_rounds, lent_fitting}
use Rattle.key_marks.proofs.+doors_open_keys_held.Goals as goal

pub doors_open-returns : goal.doors_open-returns
doors_open-returns t c = doors_stamped c.keys_held.ensures c.mark_rows.ensures

pub keys_held-returns-then-n-gt0 : goal.keys_held-returns-then-n-gt0
keys_held-returns-then-n-gt0 t c =
    keys_stamped_at (lent_fitting c.requires.lent) (sub-add_cancel c.if-n-gt0.true) c.doors_open.ensures
    c.mark_rows.ensures

pub keys_held-returns-else-n-gt0 : goal.keys_held-returns-else-n-gt0
keys_held-returns-else-n-gt0 t c =
    subst
    (λ (i : ℕ). Rounds (grid_of c.args.locks.now) (grid_of c.args.cabinets.now) (held c.args.keys.now) i i
    c.args.keys.now c.args.doors.now)
    (omega arith) (lent_rounds c.requires.lent)
