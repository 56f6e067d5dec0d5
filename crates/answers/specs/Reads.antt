-- What reading one cell answers (document 01: "reading a cell returns present with the value, or absent"; document 02,
-- A11: "Reading a cell must now also return the entry's position among the N, counted from 0, or, for an absent cell, the
-- position where it would be put to keep the order.").
use Rattle.std.specs.Prelude.{ℕ, true, false}
use Rattle.grid.specs.declared.EntryAt.{EntryAt}
use Rattle.grid.specs.declared.EntryAt.TheVariants as entry
use Rattle.answers.specs.Answers.{CellAnswer}

-- "present with the value, or absent", each with a position
abbrev pub found_answer : EntryAt → CellAnswer
found_answer (entry.Present v p) = record { code = 0; present = true; value = v; position = p }
found_answer (entry.Absent p) = record { code = 0; present = false; value = 0; position = p }

-- "A refusal returns its number and 0.", and "Refusals return position 0"
abbrev pub refused_read : ℕ → CellAnswer
refused_read code = record { code = code; present = false; value = 0; position = 0 }
