-- The one writing of a grid with a revision (document 01, "How a sheet is written" and "The shelf": "its sheet: that shape,
-- with those values as entries, row by row and from left to right"; document 02, A12).
use Rattle.std.specs.Prelude.{ℕ, zero, suc, ◌+◌, List, [], ◌∷◌, ◌++◌, length, drop}
use Rattle.grid.specs.Grid.{Grid}
use Rattle.grid.specs.Revision.{updating, revision_after}
use Rattle.grid.specs.Entries.{column, flatten, grid_columns, grid_values}
pub use Rattle.grid.specs.Size.{grid_size, Within}
use Rattle.matrix.specs.Layout.{revision}

-- a section "after its count"
abbrev pub counted : List ℕ → List ℕ
counted l = length l ∷ l

-- f 0, f 1 and so on, n numbers
unfoldable pub tabulate : (ℕ → ℕ) → ℕ → List ℕ
tabulate f zero = []
tabulate f (suc n) = tabulate f n ++ (f n ∷ [])

-- how many entries the rows before row k have
abbrev pub entries_before : Grid → ℕ → ℕ
entries_before g k = length (flatten column g.cols g.cell k)

-- the row starts: for each row how many entries come before it, and at the end how many there are
abbrev pub grid_starts : Grid → List ℕ
grid_starts g = tabulate (entries_before g) (g.rows + 1)

-- "sections in fixed order, each after its count": shape, row starts, column numbers, values; and before them A12's "new
-- first section .. : 1, then a revision number", which is v
unfoldable pub encode_revised : ℕ → Grid → List ℕ
encode_revised v g =
    counted (v ∷ [])
    ++ (counted (g.rows ∷ g.cols ∷ [])
    ++ (counted (grid_starts g) ++ (counted (grid_columns g) ++ counted (grid_values g))))

-- the writing of a grid that is made anew: its revision "starts at 0"
abbrev pub encode : Grid → List ℕ
encode g = encode_revised 0 g

-- a grid written at the front of words: "Spare words behind an accepted sheet keep what they held before the call."
abbrev pub written_revised : ℕ → Grid → List ℕ → List ℕ
written_revised v g w = encode_revised v g ++ drop (grid_size g) w

abbrev pub written_over : Grid → List ℕ → List ℕ
written_over g w = written_revised 0 g w

-- a grid written over the matrix in the words w by a call that writes into it: "Each accepted call that writes into a sheet
-- adds one to that sheet's revision"
abbrev pub updated_to : Grid → List ℕ → List ℕ
updated_to g w = written_revised (revision_after updating (revision w)) g w
