-- `row_viewable` is the test `viewable`.
use native.Mathlib.Omega.{arith}
use mathlib.Core.Path.{sym, ◌∙◌}
use mathlib.Core.Bool.{false≢true}
use Rattle.conditions.proofs.Tests.{refuted}
use Rattle.matrix.proofs.Facts.{matrix_facts}
use Rattle.row_view.proofs.Views.{viewable_facts, row_decides}
use Rattle.row_view.proofs.row_viewable.Goals as goal
use Rattle.row_view.proofs.row_viewable.Goals.{then-not-is_valid-via-then-not-is_valid, then-not-is_valid-via-else-not-is_valid+then-not-is_valid-2}
use Rattle.row_view.proofs.row_viewable.Goals.{then-first-second-via-then-first-second, then-first-second-via-else-first-second+then-first-second-2}

pub returns-then-not-is_valid : goal.returns-then-not-is_valid
returns-then-not-is_valid c =
    elim c.then-not-is_valid.branch [
      | then-not-is_valid-via-then-not-is_valid w ↦
          sym (refuted _ (λ h. false≢true (w.if-not-is_valid.ensures ∙ (viewable_facts _ _ _ h).first)))
      | then-not-is_valid-via-else-not-is_valid+then-not-is_valid-2 w ↦
          sym (refuted _ (λ h. false≢true (w.if-not-is_valid-2.ensures ∙ (viewable_facts _ _ _ h).second)))
    ]

pub bounds-first-3 : goal.bounds-first-3
bounds-first-3 c = let m = matrix_facts _ (sym c.if-not-is_valid.ensures) in omega arith

pub bounds-second-3 : goal.bounds-second-3
bounds-second-3 c = let m = matrix_facts _ (sym c.if-not-is_valid-2.ensures) in omega arith

pub bounds-first-4 : goal.bounds-first-4
bounds-first-4 c = let m = matrix_facts _ (sym c.if-not-is_valid.ensures) in omega arith

pub bounds-second-4 : goal.bounds-second-4
bounds-second-4 c = let m = matrix_facts _ (sym c.if-not-is_valid-2.ensures) in omega arith

pub returns-then-first-second : goal.returns-then-first-second
returns-then-first-second c =
    elim c.then-first-second.branch [
      | then-first-second-via-then-first-second w ↦
          sym (refuted _ (λ h. let f = viewable_facts _ _ _ h in omega arith))
      | then-first-second-via-else-first-second+then-first-second-2 w ↦
          sym (refuted _ (λ h. let f = viewable_facts _ _ _ h in omega arith))
    ]

pub bounds-first-3-2 : goal.bounds-first-3-2
bounds-first-3-2 c = let m = matrix_facts _ (sym c.if-not-is_valid.ensures) in omega arith

pub returns : goal.returns
returns c =
    row_decides _ _ _ (sym c.if-not-is_valid.ensures) (sym c.if-not-is_valid-2.ensures) c.if-first-second.false
    c.if-first-second-2.false
