-- `row_showable` is the test `showable`.
use native.Mathlib.Omega.{arith}
use mathlib.Core.Path.{◌∙◌}
use Rattle.conditions.proofs.Tests.{said_no, said_yes}
use Rattle.day_calls.proofs.Shows.{ready_told, not_showable, row_decides}
use Rattle.day_calls.proofs.row_showable.Goals as goal

pub bounds-base-3 : goal.bounds-base-3
bounds-base-3 c =
    let m = (ready_told _ _ _ _ (said_yes c.is_ok.ensures.value c.if-is_ok.true) c.pair_refusal.ensures).base_valid in
    omega arith

pub returns-then-is_ok : goal.returns-then-is_ok
returns-then-is_ok c =
    row_decides _ _ _ _ _ (said_yes c.is_ok.ensures.value c.if-is_ok.true) c.pair_refusal.ensures

pub returns-else-is_ok : goal.returns-else-is_ok
returns-else-is_ok c =
    c.if-is_ok.false ∙ not_showable _ _ _ _ _ (said_no c.is_ok.ensures.value c.if-is_ok.false) c.pair_refusal.ensures
