-- The limits of document 01, as document 02, A6, raises them: of a matrix, of an index list, of the flags and of a
-- store. No other definition states these numbers; src/ has the same ones for the code.
use Rattle.std.specs.Prelude.{ℕ}

-- "R and C are 1 to 512"; A6: "Raise rows, columns and index-list length from 512 to 1,000 each"
abbrev pub max_rows : ℕ
max_rows = 1000

abbrev pub max_cols : ℕ
max_cols = 1000

-- "N is 0 to 2,048"; A6: "entries stay at 2,048"
abbrev pub max_entries : ℕ
max_entries = 2048

-- "an index list shorter than 1 or longer than 512" (A6: 1,000)
abbrev pub max_list : ℕ
max_list = 1000

-- "flags above 31"
abbrev pub max_flags : ℕ
max_flags = 31

-- "Eight places, 0 to 7."
abbrev pub slot_count : ℕ
slot_count = 8

-- "The length is 8 to 16,384 words." (A6: "The shelf stays at 16,384 words."): each slot has at least its count
abbrev pub max_store_words : ℕ
max_store_words = 16384

-- A12: "after 4294967295 the revision wraps to 0"
abbrev pub max_revision : ℕ
max_revision = 4294967295

-- A13: "an allowance of 0 to 1,000 rounds"
abbrev pub max_allowance : ℕ
max_allowance = 1000

-- A8: "The stack buffer is lent by the host, at least 65,000 words"
abbrev pub min_stack_words : ℕ
min_stack_words = 65000
