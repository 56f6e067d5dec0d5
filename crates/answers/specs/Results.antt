-- What a call answers, from what its function gives: a number of entries, a cell or a number, or the refusal.
use Rattle.std.specs.Prelude.{ℕ, Result, Ok, Err}
use Rattle.grid.specs.declared.EntryAt.{EntryAt}
use Rattle.answers.specs.Answers.{Answer}
use Rattle.answers.specs.Answers.{CellAnswer}
use Rattle.answers.specs.Answers.{NumberAnswer}
use Rattle.answers.specs.declared.Refusal.{Refusal}
use Rattle.answers.specs.declared.Refusal.TheVariants as refusal
use Rattle.answers.specs.Refusals.{
  flags_out_of_range,
  unknown_operator,
  invalid_first,
  invalid_second,
  invalid_mask,
  invalid_output,
  index_out_of_bounds,
  invalid_shape,
  workspace_too_short,
  too_many_entries,
  insufficient_space,
  invalid_store,
  empty_slot,
  invalid_formula,
  invalid_file,
  accepted,
  refused,
}
use Rattle.answers.specs.Reads.{found_answer, refused_read}
use Rattle.answers.specs.Numbers.{number_answer, refused_number}

-- the number of a refusal in document 01's table
abbrev pub number : Refusal → ℕ
number refusal.FlagsOutOfRange = flags_out_of_range
number refusal.UnknownOperator = unknown_operator
number refusal.InvalidFirst = invalid_first
number refusal.InvalidSecond = invalid_second
number refusal.InvalidMask = invalid_mask
number refusal.InvalidOutput = invalid_output
number refusal.IndexOutOfBounds = index_out_of_bounds
number refusal.InvalidShape = invalid_shape
number refusal.WorkspaceTooShort = workspace_too_short
number refusal.TooManyEntries = too_many_entries
number refusal.InsufficientSpace = insufficient_space
number refusal.InvalidStore = invalid_store
number refusal.EmptySlot = empty_slot
number refusal.InvalidFormula = invalid_formula
number refusal.InvalidFile = invalid_file

-- "the lowest refusal that applies", or 0
abbrev pub code_of : {A : Type 0} → Result A Refusal → ℕ
code_of (Ok x) = 0
code_of (Err r) = number r

-- "An accepted writing or checking call returns 0 and the N of its sheet", "A refusal returns its number and 0."
abbrev pub answer : Result ℕ Refusal → Answer
answer (Ok n) = accepted n
answer (Err r) = refused (number r)

-- the same of a cell that is read
abbrev pub cell_answer : Result EntryAt Refusal → CellAnswer
cell_answer (Ok e) = found_answer e
cell_answer (Err r) = refused_read (number r)

-- the same of a number
abbrev pub total_answer : Result ℕ Refusal → NumberAnswer
total_answer (Ok v) = number_answer v
total_answer (Err r) = refused_number (number r)
