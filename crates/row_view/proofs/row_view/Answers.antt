-- `row_view` returns the part that `row_view` names.
use mathlib.Core.Path.{◌≡◌, refl, sym, ◌∙◌}
use mathlib.Core.Bool.{false≢true}
use lib.ListN.{length}
use borrow.Author.Rules.{rules}
use borrow.Author.Tests.{eq-eqb, eqb-true}
use Rattle.matrix.proofs.Facts.{matrix_facts}
use Rattle.row_view.proofs.Views.{viewable_facts, span_first, span_second, row_empty_lem, row_filled, shown_nothing, shown_second, shown_first}
use Rattle.row_view.proofs.row_view.Goals as goal

pub returns-then-not-row_viewable : goal.returns-then-not-row_viewable
returns-then-not-row_viewable c =
    shown_nothing _ _ _ _ _ (sym c.if-not-row_viewable.ensures)
    (record { memory = refl; offset = search rules; words = refl })

pub row_columns-requires : goal.row_columns-requires
row_columns-requires c =
    let h = viewable_facts _ _ _ (sym c.if-not-row_viewable.ensures) in
    ((matrix_facts _ h.first).header, span_first _ _ _ h)

pub row_section-requires-clause-fact_1 : goal.row_section-requires-clause-fact_1
row_section-requires-clause-fact_1 c =
    (matrix_facts _ (viewable_facts _ _ _ (sym c.if-not-row_viewable.ensures)).second).header

pub row_section-requires-clause-fact_2 : goal.row_section-requires-clause-fact_2
row_section-requires-clause-fact_2 c = span_second _ _ _ (viewable_facts _ _ _ (sym c.if-not-row_viewable.ensures))

pub returns-then-is_empty : goal.returns-then-is_empty
returns-then-is_empty c =
    let v = sym c.if-not-row_viewable.ensures in
    let e = row_empty_lem _ _ _ (viewable_facts _ _ _ v) _ c.row_columns.ensures.words (eqb-true _ _ (sym c.if-is_empty.ensures)) in
    shown_second _ _ _ _ _ v e c.row_section.ensures

pub row_section-requires-else-is_empty-clause-fact_1 : goal.row_section-requires-else-is_empty-clause-fact_1
row_section-requires-else-is_empty-clause-fact_1 c =
    (matrix_facts _ (viewable_facts _ _ _ (sym c.if-not-row_viewable.ensures)).first).header

pub row_section-requires-else-is_empty-clause-fact_2 : goal.row_section-requires-else-is_empty-clause-fact_2
row_section-requires-else-is_empty-clause-fact_2 c = span_first _ _ _ (viewable_facts _ _ _ (sym c.if-not-row_viewable.ensures))

pub returns-else-is_empty : goal.returns-else-is_empty
returns-else-is_empty c =
    let v = sym c.if-not-row_viewable.ensures in
    let z = λ (z : length c.row_columns.result.now ≡ 0). false≢true (c.if-is_empty.ensures ∙ eq-eqb _ _ z) in
    let e = row_filled _ _ _ (viewable_facts _ _ _ v) _ c.row_columns.ensures.words z in
    shown_first _ _ _ _ _ v e c.row_section-else-is_empty.ensures
