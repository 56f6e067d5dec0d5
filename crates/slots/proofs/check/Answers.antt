-- `check` is the test `store_valid`, and where the sections end.
use native.Mathlib.Omega.{arith}
use mathlib.Core.Path.{sym}
use Rattle.std.proofs.lemmas.Result.{err_from_is_err_and}
use Rattle.slots.proofs.Checks.{too_short, too_long, sections_fail, end_inside, zeros_fail, all_hold_lem}
use Rattle.slots.proofs.check.Goals as goal
use Rattle.slots.proofs.check.Goals.{then-store-lt-SLOTS-via-then-store-lt-SLOTS, then-store-lt-SLOTS-via-else-store-lt-SLOTS+then-store-gt-MAX_STORE_WORDS}

pub returns-then-store-lt-SLOTS : goal.returns-then-store-lt-SLOTS
returns-then-store-lt-SLOTS c =
    elim c.then-store-lt-SLOTS.branch [
      | then-store-lt-SLOTS-via-then-store-lt-SLOTS w ↦ too_short _ (omega arith)
      | then-store-lt-SLOTS-via-else-store-lt-SLOTS+then-store-gt-MAX_STORE_WORDS w ↦ too_long _ (omega arith)
    ]

pub returns-in_err-end : goal.returns-in_err-end
returns-in_err-end c =
    let p = err_from_is_err_and c.from_residual.result c.from_residual.ensures.1 in
    rw (p.1, p.2) (sections_fail _ c.sections_end.ensures c.in_err-end.ensures.value)

pub zeros_from-requires : goal.zeros_from-requires
zeros_from-requires c = end_inside _ (grind (arith, c.sections_end.ensures))

pub returns-then-zeros_from : goal.returns-then-zeros_from
returns-then-zeros_from c =
    all_hold_lem _ (grind (arith, c.sections_end.ensures)) (omega arith) (omega arith) (sym c.if-zeros_from.ensures)

pub returns-else-zeros_from : goal.returns-else-zeros_from
returns-else-zeros_from c = zeros_fail _ (grind (arith, c.sections_end.ensures)) (sym c.if-zeros_from.ensures)
