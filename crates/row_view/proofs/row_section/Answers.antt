-- `row_section` returns the section asked.
use Rattle.row_view.proofs.row_section.Goals as goal

pub returns-in-Columns : goal.returns-in-Columns
returns-in-Columns c = rw c.in-Columns.is c.row_columns.ensures

pub returns-in-Values : goal.returns-in-Values
returns-in-Values c = rw c.in-Values.is c.row_values.ensures
