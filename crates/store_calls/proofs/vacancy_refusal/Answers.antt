-- `vacancy_refusal` looks at the lengths of the four slots, one after the other.
use mathlib.Core.Path.{◌∙◌}
use Rattle.answers.specs.Refusals.{empty_slot}
use Rattle.store_calls.proofs.Roles.{empty, found, first_role, second_role, mask_role, output_role, no_role}
use Rattle.store_calls.proofs.vacancy_refusal.Goals as goal

pub returns-then-is_empty : goal.returns-then-is_empty
returns-then-is_empty c =
    first_role empty_slot (empty c.args.store.now) c.args.roles
    (found _ _ _ _ c.contents.ensures.words c.is_empty.ensures ∙ c.if-is_empty.true)

pub returns-then-is_empty-2 : goal.returns-then-is_empty-2
returns-then-is_empty-2 c =
    second_role empty_slot (empty c.args.store.now) c.args.roles
    (found _ _ _ _ c.contents.ensures.words c.is_empty.ensures ∙ c.if-is_empty.false)
    (found _ _ _ _ c.contents-2.ensures.words c.is_empty-2.ensures ∙ c.if-is_empty-2.true)

pub returns-then-is_empty-3 : goal.returns-then-is_empty-3
returns-then-is_empty-3 c =
    mask_role empty_slot (empty c.args.store.now) c.args.roles
    (found _ _ _ _ c.contents.ensures.words c.is_empty.ensures ∙ c.if-is_empty.false)
    (found _ _ _ _ c.contents-2.ensures.words c.is_empty-2.ensures ∙ c.if-is_empty-2.false)
    (found _ _ _ _ c.contents-3.ensures.words c.is_empty-3.ensures ∙ c.if-is_empty-3.true)

pub returns-then-is_empty-4 : goal.returns-then-is_empty-4
returns-then-is_empty-4 c =
    output_role empty_slot (empty c.args.store.now) c.args.roles
    (found _ _ _ _ c.contents.ensures.words c.is_empty.ensures ∙ c.if-is_empty.false)
    (found _ _ _ _ c.contents-2.ensures.words c.is_empty-2.ensures ∙ c.if-is_empty-2.false)
    (found _ _ _ _ c.contents-3.ensures.words c.is_empty-3.ensures ∙ c.if-is_empty-3.false)
    (found _ _ _ _ c.contents-4.ensures.words c.is_empty-4.ensures ∙ c.if-is_empty-4.true)

pub returns : goal.returns
returns c =
    no_role empty_slot (empty c.args.store.now) c.args.roles
    (found _ _ _ _ c.contents.ensures.words c.is_empty.ensures ∙ c.if-is_empty.false)
    (found _ _ _ _ c.contents-2.ensures.words c.is_empty-2.ensures ∙ c.if-is_empty-2.false)
    (found _ _ _ _ c.contents-3.ensures.words c.is_empty-3.ensures ∙ c.if-is_empty-3.false)
    (found _ _ _ _ c.contents-4.ensures.words c.is_empty-4.ensures ∙ c.if-is_empty-4.false)
