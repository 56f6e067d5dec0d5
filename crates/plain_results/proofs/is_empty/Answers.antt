-- `is_empty`: by the rows of the inputs, for the operation that is matched.
use native.Mathlib.Omega.{arith}
use mathlib.Core.Bool.{false≢true}
use Rattle.result_rows.proofs.Inputs.{add_inputs}
use Rattle.plain_results.proofs.Empty.{row_matched, spanned}
use Rattle.plain_results.proofs.Empty.{product_none, mult_none, add_none, apply_none, select_none}
use Rattle.plain_results.proofs.is_empty.Goals as goal

pub has_none-requires : goal.has_none-requires
has_none-requires c = let h = row_matched c.in-Mxm.is c.requires in
    let s = spanned h.first h.row in record { header = s.0; span = s.1 }

pub has_none-requires-in-EwiseMult : goal.has_none-requires-in-EwiseMult
has_none-requires-in-EwiseMult c = let h = row_matched c.in-EwiseMult.is c.requires in
    let s = spanned h.first h.row in record { header = s.0; span = s.1 }

pub has_none-requires-in-EwiseAdd : goal.has_none-requires-in-EwiseAdd
has_none-requires-in-EwiseAdd c = let h = row_matched c.in-EwiseAdd.is c.requires in
    let s = spanned h.first h.row in record { header = s.0; span = s.1 }

pub has_none-requires-then-has_none : goal.has_none-requires-then-has_none
has_none-requires-then-has_none c =
    let h = add_inputs _ _ _ _ _ _ _ (row_matched c.in-EwiseAdd.is c.requires) in
    let s = spanned h.second (omega (arith, h.row, h.same_rows)) in record { header = s.0; span = s.1 }

pub has_none-requires-in-Apply : goal.has_none-requires-in-Apply
has_none-requires-in-Apply c = let h = row_matched c.in-Apply.is c.requires in
    let s = spanned h.first h.row in record { header = s.0; span = s.1 }

pub has_none-requires-in-Select : goal.has_none-requires-in-Select
has_none-requires-in-Select c = let h = row_matched c.in-Select.is c.requires in
    let s = spanned h.first h.row in record { header = s.0; span = s.1 }

pub returns-in-Mxm : goal.returns-in-Mxm
returns-in-Mxm c = λ e.
    let x = c.args in
    product_none x.a.now x.b.now x.c.now x.is.now x.js.now x.i (c.has_none.ensures e)
    c.in-Mxm.is

pub returns-in-EwiseMult : goal.returns-in-EwiseMult
returns-in-EwiseMult c = λ e.
    let x = c.args in
    mult_none x.a.now x.b.now x.c.now x.is.now x.js.now x.i (c.has_none-in-EwiseMult.ensures e)
    c.in-EwiseMult.is

pub returns-then-has_none : goal.returns-then-has_none
returns-then-has_none c = λ e.
    let x = c.args in
    add_none x.a.now x.b.now x.c.now x.is.now x.js.now x.i
    (c.has_none-in-EwiseAdd.ensures c.if-has_none.true) (c.has_none-then-has_none.ensures e)
    c.in-EwiseAdd.is

pub returns-in-Apply : goal.returns-in-Apply
returns-in-Apply c = λ e.
    let x = c.args in
    apply_none x.a.now x.b.now x.c.now x.is.now x.js.now x.i (c.has_none-in-Apply.ensures e)
    c.in-Apply.is

pub returns-in-Select : goal.returns-in-Select
returns-in-Select c = λ e.
    let x = c.args in
    select_none x.a.now x.b.now x.c.now x.is.now x.js.now x.i (c.has_none-in-Select.ensures e)
    c.in-Select.is
