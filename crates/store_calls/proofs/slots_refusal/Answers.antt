-- `slots_refusal` tests the four slots one after the other.
use borrow.Author.Tests.{le-leb, lt-leb}
use Rattle.answers.specs.Refusals.{invalid_store}
use Rattle.store_calls.proofs.Roles.{past, first_role, second_role, mask_role, output_role, no_role}
use Rattle.store_calls.proofs.slots_refusal.Goals as goal

pub returns-then-roles-ge-SLOTS : goal.returns-then-roles-ge-SLOTS
returns-then-roles-ge-SLOTS c = first_role invalid_store past c.args.roles (le-leb _ _ c.if-roles-ge-SLOTS.true)

pub returns-then-roles-ge-SLOTS-2 : goal.returns-then-roles-ge-SLOTS-2
returns-then-roles-ge-SLOTS-2 c =
    second_role invalid_store past c.args.roles (lt-leb _ _ c.if-roles-ge-SLOTS.false) (le-leb _ _ c.if-roles-ge-SLOTS-2.true)

pub returns-then-roles-ge-SLOTS-3 : goal.returns-then-roles-ge-SLOTS-3
returns-then-roles-ge-SLOTS-3 c =
    mask_role invalid_store past c.args.roles (lt-leb _ _ c.if-roles-ge-SLOTS.false) (lt-leb _ _ c.if-roles-ge-SLOTS-2.false)
    (le-leb _ _ c.if-roles-ge-SLOTS-3.true)

pub returns-then-roles-ge-SLOTS-4 : goal.returns-then-roles-ge-SLOTS-4
returns-then-roles-ge-SLOTS-4 c =
    output_role invalid_store past c.args.roles (lt-leb _ _ c.if-roles-ge-SLOTS.false) (lt-leb _ _ c.if-roles-ge-SLOTS-2.false)
    (lt-leb _ _ c.if-roles-ge-SLOTS-3.false) (le-leb _ _ c.if-roles-ge-SLOTS-4.true)

pub returns : goal.returns
returns c =
    no_role invalid_store past c.args.roles (lt-leb _ _ c.if-roles-ge-SLOTS.false) (lt-leb _ _ c.if-roles-ge-SLOTS-2.false)
    (lt-leb _ _ c.if-roles-ge-SLOTS-3.false) (lt-leb _ _ c.if-roles-ge-SLOTS-4.false)
