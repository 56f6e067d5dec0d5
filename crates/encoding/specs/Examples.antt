-- Document 01, "How a sheet is written", with document 02's A12, by examples that the checker computes: what is written, what is read back, and
-- which words beside them are no matrix.
use Rattle.std.specs.Prelude.{ℕ, ◌≡◌, refl, List, [], ◌∷◌, ◌++◌, true, false, cond, take, drop, eqb, None, Some}
use Rattle.conditions.specs.Tests.{◌and◌, all}
use Rattle.grid.specs.Cell.{Cell}
use Rattle.grid.specs.Grid.{Grid, empty_grid}
use Rattle.grid.specs.Entries.{one, gather, flatten}
use Rattle.rows.specs.Row.{lookup}
use Rattle.matrix.specs.Layout.{cell_of, grid_of}
use Rattle.matrix.specs.Valid.{in_range, header_valid, starts_valid, rows_valid, valid}
use Rattle.encoding.specs.Encode.{tabulate, encode_revised, encode}

-- "The 1 by 4 strip with 10, 20, 40 at columns 0, 1, 3"
abbrev vector_cell : ℕ → Cell
vector_cell j = cond (eqb j 0) (Some 10) (cond (eqb j 1) (Some 20) (cond (eqb j 3) (Some 40) None))

abbrev vector : Grid
vector = record { rows = 1; cols = 4; cell = λ i j. vector_cell j }

abbrev vector_words : List ℕ
vector_words = 1 ∷ 0 ∷ 2 ∷ 1 ∷ 4 ∷ 2 ∷ 0 ∷ 3 ∷ 3 ∷ 0 ∷ 1 ∷ 3 ∷ 3 ∷ 10 ∷ 20 ∷ 40 ∷ []

-- "is, whole: 2, 1, 4, 2, 0, 3, 3, 0, 1, 3, 3, 10, 20, 40"; A12: it "gains "1, 0" at its front"
pub vector_encoded : encode vector ≡ vector_words
unfolding encode_revised tabulate flatten gather one
vector_encoded = refl

-- with another revision, only that word differs
vector_revised : encode_revised 7 vector ≡ 1 ∷ 7 ∷ drop 2 vector_words
unfolding encode_revised tabulate flatten gather one
vector_revised = refl

-- these words are a valid matrix
pub vector_valid : valid vector_words ≡ true
unfolding valid header_valid starts_valid rows_valid in_range ◌and◌ all
vector_valid = refl

-- with any revision; not with another count before it, nor in the form before A12
vector_touched : valid (1 ∷ 4294967295 ∷ drop 2 vector_words) ≡ true
unfolding valid header_valid starts_valid rows_valid in_range ◌and◌ all
vector_touched = refl

vector_miscounted : valid (2 ∷ drop 1 vector_words) ≡ false
unfolding valid header_valid starts_valid rows_valid in_range ◌and◌ all
vector_miscounted = refl

vector_old : valid (drop 2 vector_words) ≡ false
unfolding valid header_valid starts_valid rows_valid in_range ◌and◌ all
vector_old = refl

-- "a grid of the given shape without values", 2 by 3: three row starts, and no entries
pub empty_encoded : encode (empty_grid 2 3) ≡ 1 ∷ 0 ∷ 2 ∷ 2 ∷ 3 ∷ 3 ∷ 0 ∷ 0 ∷ 0 ∷ 0 ∷ 0 ∷ []
unfolding encode_revised tabulate flatten gather one
empty_encoded = refl

-- what is read from the words of the vector: a value, and none where there is no entry
vector_read : (grid_of vector_words).cell 0 3 ≡ Some 40
unfolding cell_of lookup
vector_read = refl

vector_absent : (grid_of vector_words).cell 0 2 ≡ None
unfolding cell_of lookup
vector_absent = refl

-- "row by row and from left to right", and not column by column: 7 at (0, 1) comes before 8 at (1, 0). "a stored zero
-- is an entry", at (1, 1), and "The value -5 is stored as 4294967291", at (0, 0)
abbrev square_cell : ℕ → ℕ → Cell
square_cell i j =
    cond (eqb i 0) (cond (eqb j 0) (Some 4294967291) (Some 7)) (cond (eqb j 0) (Some 8) (Some 0))

square_encoded : encode (record { rows = 2; cols = 2; cell = square_cell })
    ≡ 1 ∷ 0 ∷ 2 ∷ 2 ∷ 2 ∷ 3 ∷ 0 ∷ 2 ∷ 4 ∷ 4 ∷ 0 ∷ 1 ∷ 0 ∷ 1 ∷ 4 ∷ 4294967291 ∷ 7 ∷ 8 ∷ 0 ∷ []
unfolding encode_revised tabulate flatten gather one
square_encoded = refl

-- the 1 by 2 vector with 5 and 6, with a spare word: a valid matrix. Not so with its column numbers in the other order,
-- which would be a second writing of the same cells; with one of them twice; with starts that begin at 1; with another
-- count before the values; with a word short
abbrev pair_of : ℕ → ℕ → ℕ → ℕ → List ℕ
pair_of first a b again = 1 ∷ 0 ∷ 2 ∷ 1 ∷ 2 ∷ 2 ∷ first ∷ 2 ∷ 2 ∷ a ∷ b ∷ again ∷ 5 ∷ 6 ∷ []

pair_spare : valid (pair_of 0 0 1 2 ++ (9 ∷ [])) ≡ true
unfolding valid header_valid starts_valid rows_valid in_range ◌and◌ all
pair_spare = refl

pair_falling : valid (pair_of 0 1 0 2) ≡ false
unfolding valid header_valid starts_valid rows_valid in_range ◌and◌ all
pair_falling = refl

pair_twice : valid (pair_of 0 1 1 2) ≡ false
unfolding valid header_valid starts_valid rows_valid in_range ◌and◌ all
pair_twice = refl

pair_late : valid (pair_of 1 0 1 2) ≡ false
unfolding valid header_valid starts_valid rows_valid in_range ◌and◌ all
pair_late = refl

pair_recounted : valid (pair_of 0 0 1 1) ≡ false
unfolding valid header_valid starts_valid rows_valid in_range ◌and◌ all
pair_recounted = refl

pair_short : valid (take 13 (pair_of 0 0 1 2)) ≡ false
unfolding valid header_valid starts_valid rows_valid in_range ◌and◌ all
pair_short = refl
