-- `starts_valid` is the test `starts_valid`.
use mathlib.Core.Path.{sym, ◌∙◌}
use mathlib.Core.Bool.{false≢true}
use borrow.Author.Tests.{eq-eqb, eqb-true}
use Rattle.conditions.proofs.Tests.{refuted}
use Rattle.matrix.proofs.Facts.{starts_facts, starts_decide}
use Rattle.matrix.proofs.starts_valid.Goals as goal
use Rattle.matrix.proofs.starts_valid.Goals.{then-words-eq0, else-words-eq0}

pub returns-then-words-r : goal.returns-then-words-r
returns-then-words-r c = elim c.if-words-eq0.branch [
  | then-words-eq0 w ↦
      c.starts_climb.ensures
      ∙ starts_decide c.args.words.now w.if-words-eq0.true (eqb-true _ _ (sym w.value-is ∙ c.if-words-r.true))
  | else-words-eq0 w ↦ absurd (w.if-words-eq0.false (eqb-true _ _ (sym w.value-is ∙ c.if-words-r.true)))
]

pub returns-else-words-r : goal.returns-else-words-r
returns-else-words-r c =
    c.if-words-r.false
    ∙ sym (refuted _ (λ h. let f = starts_facts _ h in
    elim c.if-words-eq0.branch [
      | then-words-eq0 w ↦ false≢true (sym c.if-words-r.false ∙ w.value-is ∙ eq-eqb _ _ f.last)
      | else-words-eq0 w ↦ w.if-words-eq0.false f.first
    ]))
