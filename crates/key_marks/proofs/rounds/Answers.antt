-- `rounds` holds the keys of round n, and the doors' first rounds up to it.
use Prim.Native.Nat.{◌+◌}
use native.Mathlib.Omega.{arith}
use mathlib.Core.Path.{◌≡◌, sym, ◌∙◌}
use Rattle.key_marks.proofs.Steps.{doors_stamped, keys_stamped, rounds_settled, lent_rounds, lent_fitting, locks_stampable, cabinets_stampable}
use Rattle.key_marks.proofs.rounds.Goals as goal

pub mark_rows-requires : goal.mark_rows-requires
mark_rows-requires c = locks_stampable c.requires.lent (lent_rounds c.requires.lent) (omega arith)

pub mark_rows-requires-in-loop-n : goal.mark_rows-requires-in-loop-n
mark_rows-requires-in-loop-n c = cabinets_stampable c.requires.lent c.loop-n.invariant

pub loop-n-init : goal.loop-n-init
loop-n-init c = doors_stamped (lent_rounds c.requires.lent) c.mark_rows.ensures

pub returns-then-count_marks-before : goal.returns-then-count_marks-before
returns-then-count_marks-before c =
    rounds_settled c.loop-n.invariant
    (keys_stamped (lent_fitting c.requires.lent) c.loop-n.invariant c.mark_rows-in-loop-n.ensures)
    (sym c.count_marks.ensures ∙ c.if-count_marks-before.true ∙ c.count_marks-before.ensures)
    c.loop-n-test.true

pub loop-n-preserved : goal.loop-n-preserved
loop-n-preserved c =
    let n = c.loop-n.n in
    let e : n + 2 ≡ n + 1 + 1 = omega arith in
    doors_stamped (keys_stamped (lent_fitting c.requires.lent) c.loop-n.invariant c.mark_rows-in-loop-n.ensures)
    (rw e at c.mark_rows-in-loop-n-2.ensures)
