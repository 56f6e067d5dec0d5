-- `agreement_refusal` looks at the lists, the shapes and the workspace.
use mathlib.Core.Path.{◌≡◌, sym}
use borrow.Author.Tests.{lt-ltb, le-ltb}
use Rattle.limits.specs.Limits.{max_cols}
use Rattle.operations.specs.Lists.{Small}
use Rattle.conditions.proofs.Tests.{said_no, said_yes}
use Rattle.requests.proofs.Lists.{inputs_small, lists_within}
use Rattle.requests.proofs.Refusals.{agreement_tested}
use Rattle.requests.proofs.agreement_refusal.Goals as goal

pub needs_of-needs-requires : goal.needs_of-needs-requires
needs_of-needs-requires c =
    let h : Small max_cols c.shapes_of-shapes.result.first × Small max_cols c.shapes_of-shapes.result.second =
    inputs_small _ _ _ _ _ c.args.is.now c.args.js.now c.requires _ c.shapes_of-shapes.ensures in
    record { first_small = h.0; second_small = h.1 }

pub indexes_valid-requires : goal.indexes_valid-requires
indexes_valid-requires c =
    let x = c.args in
    lists_within _ _ _ _ _ x.is.now x.js.now c.requires _ _ c.shapes_of-shapes.ensures
    c.needs_of-needs.ensures

pub returns-then-not-indexes_valid : goal.returns-then-not-indexes_valid
returns-then-not-indexes_valid c =
    agreement_tested _ _ _ _ _ _ _ _ _ _ c.shapes_of-shapes.ensures c.needs_of-needs.ensures _
    (rw (said_no c.indexes_valid.ensures c.if-not-indexes_valid.true))

pub returns-then-not-shapes_agree : goal.returns-then-not-shapes_agree
returns-then-not-shapes_agree c =
    agreement_tested _ _ _ _ _ _ _ _ _ _ c.shapes_of-shapes.ensures c.needs_of-needs.ensures _
    (rw (
      said_yes c.indexes_valid.ensures c.if-not-indexes_valid.false,
      said_no c.shapes_agree.ensures c.if-not-shapes_agree.true,
    ))

pub returns-then-work-lt-WORKSPACE_WORDS : goal.returns-then-work-lt-WORKSPACE_WORDS
returns-then-work-lt-WORKSPACE_WORDS c =
    agreement_tested _ _ _ _ _ _ _ _ _ _ c.shapes_of-shapes.ensures c.needs_of-needs.ensures _
    (rw (
      said_yes c.indexes_valid.ensures c.if-not-indexes_valid.false,
      said_yes c.shapes_agree.ensures c.if-not-shapes_agree.false,
      lt-ltb _ _ c.if-work-lt-WORKSPACE_WORDS.true,
    ))

pub returns : goal.returns
returns c =
    agreement_tested _ _ _ _ _ _ _ _ _ _ c.shapes_of-shapes.ensures c.needs_of-needs.ensures _
    (rw (
      said_yes c.indexes_valid.ensures c.if-not-indexes_valid.false,
      said_yes c.shapes_agree.ensures c.if-not-shapes_agree.false,
      le-ltb _ _ c.if-work-lt-WORKSPACE_WORDS.false,
    ))
