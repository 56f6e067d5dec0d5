-- `show_row` returns the section asked, of the matrix that the row is shown from.
use mathlib.Core.Path.{refl}
use borrow.Author.Rules.{rules}
use Rattle.conditions.proofs.Tests.{said_no, said_yes}
use Rattle.day_calls.proofs.Shows.{shown_pair, shown_vector, base_span, day_span, shown_nothing, shown_day, shown_base}
use Rattle.day_calls.proofs.show_row.Goals as goal

pub returns-then-not-row_showable : goal.returns-then-not-row_showable
returns-then-not-row_showable c =
    shown_nothing _ _ _ _ _ _ (said_no c.row_showable.ensures c.if-not-row_showable.true)
    (record { memory = refl; offset = search rules; words = refl })

pub is_marked-requires : goal.is_marked-requires
is_marked-requires c = shown_vector _ _ _ _ (said_yes c.row_showable.ensures c.if-not-row_showable.false)

pub row_section-requires-clause-fact_1 : goal.row_section-requires-clause-fact_1
row_section-requires-clause-fact_1 c =
    (shown_pair _ _ _ _ (said_yes c.row_showable.ensures c.if-not-row_showable.false)).over.day_valid.header

pub row_section-requires-clause-fact_2 : goal.row_section-requires-clause-fact_2
row_section-requires-clause-fact_2 c = day_span _ _ _ _ (said_yes c.row_showable.ensures c.if-not-row_showable.false)

pub row_section-requires-else-is_marked-clause-fact_1 : goal.row_section-requires-else-is_marked-clause-fact_1
row_section-requires-else-is_marked-clause-fact_1 c =
    (shown_pair _ _ _ _ (said_yes c.row_showable.ensures c.if-not-row_showable.false)).base_valid.header

pub row_section-requires-else-is_marked-clause-fact_2 : goal.row_section-requires-else-is_marked-clause-fact_2
row_section-requires-else-is_marked-clause-fact_2 c =
    base_span _ _ _ _ (said_yes c.row_showable.ensures c.if-not-row_showable.false)

pub returns-then-is_marked : goal.returns-then-is_marked
returns-then-is_marked c =
    shown_day _ _ _ _ _ _ (said_yes c.row_showable.ensures c.if-not-row_showable.false)
    (said_yes c.is_marked.ensures c.if-is_marked.true) c.row_section.ensures

pub returns-else-is_marked : goal.returns-else-is_marked
returns-else-is_marked c =
    shown_base _ _ _ _ _ _ (said_yes c.row_showable.ensures c.if-not-row_showable.false)
    (said_no c.is_marked.ensures c.if-is_marked.false) c.row_section-else-is_marked.ensures
