-- `put_mark` inserts the entry, or replaces its value.
use mathlib.Core.Path.{sym, ◌∙◌}
use Rattle.grid.proofs.Position.{present_at}
use Rattle.day_marks.proofs.Marks.{absent_placed, has_space}
use Rattle.day_marks.proofs.put_mark.Goals as goal

pub insert_entry-requires-clause-fact_2 : goal.insert_entry-requires-clause-fact_2
insert_entry-requires-clause-fact_2 c = absent_placed c.requires.searched c.in_default.is c.position_of.ensures

pub insert_entry-requires-clause-fact_3 : goal.insert_entry-requires-clause-fact_3
insert_entry-requires-clause-fact_3 c = has_space c.requires.vector c.in_default.is c.requires.space

pub replace_value-requires-clause-fact_2 : goal.replace_value-requires-clause-fact_2
replace_value-requires-clause-fact_2 c = present_at (sym c.requires.searched ∙ c.in-Present.is)
