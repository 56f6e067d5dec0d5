-- Where the words of a matrix stand (document 01, "How a sheet is written"; document 02, A12): five sections "in fixed
-- order, each after its count": the revision, the shape, the row starts, the column numbers, the values. Each place is given from the one before it.
use Rattle.std.specs.Prelude.{ℕ, ◌+◌, ◌≡◌, refl, List}
pub use Rattle.limits.specs.Sizes.{size_of, max_matrix_words, workspace_words}
use Rattle.words.specs.Words.{at, part}
use Rattle.grid.specs.Cell.{Cell}
use Rattle.grid.specs.Grid.{Grid}
use Rattle.rows.specs.Row.{lookup}

-- A12: "a new first section before the others: 1, then a revision number"
abbrev pub revision_count_at : ℕ
revision_count_at = 0

abbrev pub revision_at : ℕ
revision_at = revision_count_at + 1

-- "2, then rows R, columns C"
abbrev pub shape_count_at : ℕ
shape_count_at = revision_count_at + 2

abbrev pub rows_at : ℕ
rows_at = shape_count_at + 1

abbrev pub cols_at : ℕ
cols_at = shape_count_at + 2

-- "R+1, then the row starts"
abbrev pub start_count_at : ℕ
start_count_at = shape_count_at + 3

abbrev pub starts_at : ℕ
starts_at = start_count_at + 1

-- "N, then the column numbers", with r rows
abbrev pub count_at : ℕ → ℕ
count_at r = r + (starts_at + 1)

abbrev pub columns_at : ℕ → ℕ
columns_at r = r + (starts_at + 2)

-- "N, then the values", with r rows and n entries
abbrev pub count_again_at : ℕ → ℕ → ℕ
count_again_at r n = r + n + (starts_at + 2)

abbrev pub values_at : ℕ → ℕ → ℕ
values_at r n = r + n + (starts_at + 3)

-- the values end where the size says, as with 3 rows and 2 entries
values_end : values_at 3 2 + 2 ≡ size_of 3 2
values_end = refl

-- the count of the revision, the revision, the count of the shape, rows R, columns C, the count of the row starts
abbrev pub revision_count : List ℕ → ℕ
revision_count s = at s revision_count_at

abbrev pub revision : List ℕ → ℕ
revision s = at s revision_at

abbrev pub shape_count : List ℕ → ℕ
shape_count s = at s shape_count_at

abbrev pub rows : List ℕ → ℕ
rows s = at s rows_at

abbrev pub cols : List ℕ → ℕ
cols s = at s cols_at

abbrev pub start_count : List ℕ → ℕ
start_count s = at s start_count_at

-- the start of row i among the entries
abbrev pub start : List ℕ → ℕ → ℕ
start s i = at s (i + starts_at)

-- N, as it stands before the column numbers, and again before the values
abbrev pub entries : List ℕ → ℕ
entries s = at s (count_at (rows s))

abbrev pub entries_again : List ℕ → ℕ
entries_again s = at s (count_again_at (rows s) (entries s))

abbrev pub size : List ℕ → ℕ
size s = size_of (rows s) (entries s)

-- where the column numbers and the values of row i start
abbrev pub columns_from : List ℕ → ℕ → ℕ
columns_from s i = columns_at (rows s) + start s i

abbrev pub values_from : List ℕ → ℕ → ℕ
values_from s i = values_at (rows s) (entries s) + start s i

-- the column numbers and the values of row i
abbrev pub row_columns : List ℕ → ℕ → List ℕ
row_columns s i = part (columns_from s i) (columns_from s (i + 1)) s

abbrev pub row_values : List ℕ → ℕ → List ℕ
row_values s i = part (values_from s i) (values_from s (i + 1)) s

-- the cell at row i and column j
unfoldable pub cell_of : List ℕ → ℕ → ℕ → Cell
cell_of s i j = lookup (row_columns s i) (row_values s i) j

-- the grid that the words hold
abbrev pub grid_of : List ℕ → Grid
grid_of s = record { rows = rows s; cols = cols s; cell = cell_of s }
