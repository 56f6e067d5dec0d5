-- `place_shown` gives the place of the part that `row_view` returns.
use mathlib.Core.Path.{◌≡◌, sym, ◌∙◌}
use mathlib.Core.Bool.{false≢true}
use lib.ListN.{length}
use borrow.Author.Tests.{eq-eqb, eqb-true}
use Rattle.matrix.proofs.Facts.{matrix_facts}
use Rattle.row_view.proofs.Views.{viewable_facts, span_first, span_second, row_empty_lem, row_filled, placed_nothing, placed_second, placed_first}
use Rattle.row_view.proofs.place_shown.Goals as goal

pub returns-then-not-row_viewable : goal.returns-then-not-row_viewable
returns-then-not-row_viewable c = placed_nothing _ _ _ _ (sym c.if-not-row_viewable.ensures)

pub row_columns-requires : goal.row_columns-requires
row_columns-requires c =
    let h = viewable_facts _ _ _ (sym c.if-not-row_viewable.ensures) in
    ((matrix_facts _ h.first).header, span_first _ _ _ h)

pub section_place-requires-clause-fact_1 : goal.section_place-requires-clause-fact_1
section_place-requires-clause-fact_1 c =
    (matrix_facts _ (viewable_facts _ _ _ (sym c.if-not-row_viewable.ensures)).second).header

pub section_place-requires-clause-fact_2 : goal.section_place-requires-clause-fact_2
section_place-requires-clause-fact_2 c = span_second _ _ _ (viewable_facts _ _ _ (sym c.if-not-row_viewable.ensures))

pub returns-then-is_empty : goal.returns-then-is_empty
returns-then-is_empty c =
    let v = sym c.if-not-row_viewable.ensures in
    let e = row_empty_lem _ _ _ (viewable_facts _ _ _ v) _ c.row_columns.ensures.words (eqb-true _ _ (sym c.if-is_empty.ensures)) in
    c.section_place.ensures ∙ placed_second _ _ _ _ v e

pub section_place-requires-else-is_empty-clause-fact_1 : goal.section_place-requires-else-is_empty-clause-fact_1
section_place-requires-else-is_empty-clause-fact_1 c =
    (matrix_facts _ (viewable_facts _ _ _ (sym c.if-not-row_viewable.ensures)).first).header

pub section_place-requires-else-is_empty-clause-fact_2 : goal.section_place-requires-else-is_empty-clause-fact_2
section_place-requires-else-is_empty-clause-fact_2 c = span_first _ _ _ (viewable_facts _ _ _ (sym c.if-not-row_viewable.ensures))

pub returns-else-is_empty : goal.returns-else-is_empty
returns-else-is_empty c =
    let v = sym c.if-not-row_viewable.ensures in
    let z = λ (z : length c.row_columns.result.now ≡ 0). false≢true (c.if-is_empty.ensures ∙ eq-eqb _ _ z) in
    let e = row_filled _ _ _ (viewable_facts _ _ _ v) _ c.row_columns.ensures.words z in
    c.section_place-else-is_empty.ensures ∙ placed_first _ _ _ _ v e
