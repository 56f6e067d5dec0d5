-- `is_marked` says whether the search found the mark.
use mathlib.Core.Path.{sym}
use Rattle.day_marks.proofs.Marks.{found_unmarked, found_marked}
use Rattle.day_marks.proofs.is_marked.Goals as goal

pub returns-in-Present : goal.returns-in-Present
returns-in-Present c = sym (found_marked _ _ c.entry_at.ensures.fact_1 c.in-Present.is)

pub returns-in_default : goal.returns-in_default
returns-in_default c = sym (found_unmarked _ _ c.entry_at.ensures.fact_1 c.in_default.is)
