-- `place_shown` gives the place of the part that `show_row` returns.
use mathlib.Core.Path.{◌∙◌}
use Rattle.conditions.proofs.Tests.{said_no, said_yes}
use Rattle.day_calls.proofs.Shows.{
  shown_pair,
  shown_vector,
  base_span,
  day_span,
  placed_nothing,
  placed_day,
  placed_base,
}
use Rattle.day_calls.proofs.place_shown.Goals as goal

pub returns-then-not-row_showable : goal.returns-then-not-row_showable
returns-then-not-row_showable c =
    placed_nothing _ _ _ _ _ (said_no c.row_showable.ensures c.if-not-row_showable.true)

pub is_marked-requires : goal.is_marked-requires
is_marked-requires c = shown_vector _ _ _ _ (said_yes c.row_showable.ensures c.if-not-row_showable.false)

pub section_place-requires-clause-fact_1 : goal.section_place-requires-clause-fact_1
section_place-requires-clause-fact_1 c =
    (shown_pair _ _ _ _ (said_yes c.row_showable.ensures c.if-not-row_showable.false)).over.day_valid.header

pub section_place-requires-clause-fact_2 : goal.section_place-requires-clause-fact_2
section_place-requires-clause-fact_2 c = day_span _ _ _ _ (said_yes c.row_showable.ensures c.if-not-row_showable.false)

pub section_place-requires-else-is_marked-clause-fact_1 : goal.section_place-requires-else-is_marked-clause-fact_1
section_place-requires-else-is_marked-clause-fact_1 c =
    (shown_pair _ _ _ _ (said_yes c.row_showable.ensures c.if-not-row_showable.false)).base_valid.header

pub section_place-requires-else-is_marked-clause-fact_2 : goal.section_place-requires-else-is_marked-clause-fact_2
section_place-requires-else-is_marked-clause-fact_2 c =
    base_span _ _ _ _ (said_yes c.row_showable.ensures c.if-not-row_showable.false)

pub returns-then-is_marked : goal.returns-then-is_marked
returns-then-is_marked c =
    c.section_place.ensures
    ∙ placed_day _ _ _ _ _ (said_yes c.row_showable.ensures c.if-not-row_showable.false)
    (said_yes c.is_marked.ensures c.if-is_marked.true)

pub returns-else-is_marked : goal.returns-else-is_marked
returns-else-is_marked c =
    c.section_place-else-is_marked.ensures
    ∙ placed_base _ _ _ _ _ (said_yes c.row_showable.ensures c.if-not-row_showable.false)
    (said_no c.is_marked.ensures c.if-is_marked.false)
