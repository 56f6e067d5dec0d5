-- `step` compares the shapes, and works T out where they agree.
use native.Mathlib.Omega.{arith}
use mathlib.Core.Path.{sym}
use lib.Seq.{length-take-le}
use Rattle.conditions.proofs.Tests.{said_no, said_yes}
use Rattle.matrix.specs.Layout.{max_matrix_words}
use Rattle.formula_steps.proofs.Result.{shape_small, stepped_disagree, agreeing}
use Rattle.formula_steps.proofs.step.Goals as goal

pub slice_bounds-shape_of-end-2 : goal.slice_bounds-shape_of-end-2
slice_bounds-shape_of-end-2 c =
    sym (length-take-le max_matrix_words c.args.area.now (omega (arith, c.requires.space)))

pub slice_bounds-shape_of-end : goal.slice_bounds-shape_of-end
slice_bounds-shape_of-end c = omega (arith, c.requires.space)

pub needs_of-needs-requires : goal.needs_of-needs-requires
needs_of-needs-requires c =
    let p = c.requires.ready in record {
      first_small = shape_small p.left _ c.shape_of-first.ensures;
      second_small = shape_small p.right _ c.shape_of-second.ensures;
    }

pub returns-then-not-inputs_agree : goal.returns-then-not-inputs_agree
returns-then-not-inputs_agree c =
    stepped_disagree c.requires
    c.shape_of-first.ensures c.shape_of-second.ensures
    c.needs_of-needs.ensures
    (said_no c.inputs_agree.ensures c.if-not-inputs_agree.true)

pub write_result-requires : goal.write_result-requires
write_result-requires c =
    agreeing c.requires
    c.shape_of-first.ensures c.shape_of-second.ensures
    c.needs_of-needs.ensures
    (said_yes c.inputs_agree.ensures c.if-not-inputs_agree.false)
