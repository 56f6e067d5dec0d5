-- `take_mark` removes the entry, or leaves all but the revision where there is none.
use mathlib.Core.Path.{sym, ◌∙◌}
use Rattle.grid.proofs.Position.{absent_at, present_at}
use Rattle.day_marks.proofs.Marks.{taken_none}
use Rattle.day_marks.proofs.take_mark.Goals as goal

pub returns-in_default : goal.returns-in_default
returns-in_default c =
    c.touch.ensures ∙ taken_none c.requires (absent_at (sym c.entry_at.ensures.fact_1 ∙ c.in_default.is))

pub remove_entry-requires-clause-fact_2 : goal.remove_entry-requires-clause-fact_2
remove_entry-requires-clause-fact_2 c = present_at (sym c.entry_at.ensures.fact_1 ∙ c.in-Present.is)
