-- Which words begin with a valid matrix (document 01, "How a sheet is written"; document 02, A12), and what `check` answers. A word past
-- the end reads as 0; the size, held against the length, rules such words out.
use Rattle.std.specs.Prelude.{ℕ, ◌+◌, List, Bool, cond, length, leb, eqb}
use Rattle.limits.specs.Limits.{max_rows, max_cols, max_entries}
unfoldable pub use Rattle.limits.specs.Ranges.{in_range}
use Rattle.answers.specs.Answers.{Answer}
use Rattle.answers.specs.Refusals.{accepted, refused, invalid_first}
use Rattle.conditions.specs.Tests.{◌and◌, all}
use Rattle.rows.specs.Row.{rising}
use Rattle.matrix.specs.Layout.{
  revision_count,
  shape_count,
  rows,
  cols,
  start_count,
  start,
  entries,
  entries_again,
  size,
  row_columns,
}

-- the counts of the sections (A12: "1, then a revision number", which is free), "R and C are 1 to 512" (A6: 1,000), "N is 0 to 2,048", and the size within the buffer
unfoldable pub header_valid : List ℕ → Bool
header_valid s =
    eqb (revision_count s) 1
    and eqb (shape_count s) 2
    and in_range max_rows (rows s)
    and in_range max_cols (cols s)
    and eqb (start_count s) (rows s + 1)
    and leb (entries s) max_entries
    and leb (size s) (length s)
    and eqb (entries_again s) (entries s)

-- the start behind row i is not below that of row i
abbrev pub climbs : List ℕ → ℕ → Bool
climbs s i = leb (start s i) (start s (i + 1))

-- "The first start is 0, starts never fall, the last is N."
unfoldable pub starts_valid : List ℕ → Bool
starts_valid s =
    eqb (start s 0) 0
    and eqb (start s (rows s)) (entries s)
    and all (rows s) (climbs s)

-- "Column numbers are below C and rise strictly within a row."
unfoldable pub rows_valid : List ℕ → Bool
rows_valid s = all (rows s) (λ i. rising (cols s) 0 (row_columns s i))

-- "Value words are free", and "Words after the sheet are spare".
unfoldable pub valid : List ℕ → Bool
valid s = header_valid s and starts_valid s and rows_valid s

-- "check a sheet": 0 and N, or 3
unfoldable pub check_answer : List ℕ → Answer
check_answer s = cond (valid s) (accepted (entries s)) (refused invalid_first)
