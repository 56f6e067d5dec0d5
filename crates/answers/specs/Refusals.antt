-- The refusal codes of document 01's table "When the clerk turns a call away", and what a call answers.
use Rattle.std.specs.Prelude.{ℕ, List, cond, eqb}
use Rattle.answers.specs.Answers.{Answer}

-- "flags above 31"
abbrev pub flags_out_of_range : ℕ
flags_out_of_range = 1

-- "no such operator, monoid or accumulator"
abbrev pub unknown_operator : ℕ
unknown_operator = 2

-- "first input, second, mask, old C is no valid sheet (a lone sheet to check or read counts as the first)"
abbrev pub invalid_first : ℕ
invalid_first = 3

abbrev pub invalid_second : ℕ
invalid_second = 4

abbrev pub invalid_mask : ℕ
invalid_mask = 5

abbrev pub invalid_output : ℕ
invalid_output = 6

-- "an index, row or column past A (as transposed) or past the sheet named"; a list shorter than 1 or longer than 1,000,
-- or with an index twice (document 02, A9)
abbrev pub index_out_of_bounds : ℕ
index_out_of_bounds = 7

-- "rows or columns outside 1 to 512" (A6: 1,000); "shapes of inputs, mask, C and T disagree; no strip where one is due"
abbrev pub invalid_shape : ℕ
invalid_shape = 8

-- "work buffer under 13,845 words" (A12: 15,315)
abbrev pub workspace_too_short : ℕ
workspace_too_short = 9

-- "the final C, or the sheet a cell is set in, would hold more than 2,048 entries"
abbrev pub too_many_entries : ℕ
too_many_entries = 10

-- "the final C, any other sheet that the call writes, or the shelf doesn't fit its buffer"
abbrev pub insufficient_space : ℕ
insufficient_space = 11

-- "shelf length or words not as above, or a place above 7"
abbrev pub invalid_store : ℕ
invalid_store = 12

-- "a place that must hold a sheet is empty"
abbrev pub empty_slot : ℕ
empty_slot = 13

-- document 02, A8: "Refuse 14 if the text isn't in this language"
abbrev pub invalid_formula : ℕ
invalid_formula = 14

-- document 02, A1: "A file of another length than its sheet's, or of no valid sheet, is refusal 15"
abbrev pub invalid_file : ℕ
invalid_file = 15

-- every code is below it
abbrev pub code_limit : ℕ
code_limit = 256

-- "An accepted writing or checking call returns 0 and the N of its sheet"
abbrev pub accepted : ℕ → Answer
accepted n = record { code = 0; entries = n }

-- "A refusal returns its number and 0."
abbrev pub refused : ℕ → Answer
refused code = record { code = code; entries = 0 }

-- "It changes no lent word but the work buffer's": what any other buffer holds afterwards, the new words only where the
-- call is accepted
abbrev pub unless_refused : Answer → List ℕ → List ℕ → List ℕ
unless_refused answer old new = cond (eqb answer.code 0) new old
