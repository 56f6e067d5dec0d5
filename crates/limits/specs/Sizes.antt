-- How many words a matrix has (document 01, "How a sheet is written"; document 02, A12), for whoever counts them without knowing where each
-- stands. matrix/specs/Layout.antt says where.
use Rattle.std.specs.Prelude.{ℕ, ◌+◌, ◌*◌, ◌≡◌, refl}
use Rattle.limits.specs.Limits.{max_rows, max_entries}

-- the words besides one for each row and two for each entry: counts, revision, shape, the last row start
abbrev pub fixed_words : ℕ
fixed_words = 9

-- A12: "Sizes become R + 2N + 9"
abbrev pub size_of : ℕ → ℕ → ℕ
size_of r n = r + n + n + fixed_words

-- A12: "the largest sheet 5,105 words, .. the work buffer 15,315", three of them
abbrev pub max_matrix_words : ℕ
max_matrix_words = size_of max_rows max_entries

abbrev pub workspace_words : ℕ
workspace_words = 3 * max_matrix_words

largest_matrix : max_matrix_words ≡ 5105
largest_matrix = refl

three_largest : workspace_words ≡ 15315
three_largest = refl
