-- The entries of a grid, "row by row and from left to right". `emit` says what is taken of an entry: its column or
-- its value.
use Rattle.std.specs.Prelude.{ℕ, zero, suc, List, [], ◌∷◌, ◌++◌, length, None, Some}
use Rattle.grid.specs.Cell.{Cell}
use Rattle.grid.specs.Grid.{Grid}

abbrev pub column : ℕ → ℕ → ℕ
column j v = j

abbrev pub value : ℕ → ℕ → ℕ
value j v = v

-- what a cell at column j gives: one item where it is present, none where it is absent
unfoldable pub one : {A : Type 0} → (ℕ → ℕ → A) → ℕ → Cell → List A
one emit j None = []
one emit j (Some v) = emit j v ∷ []

-- the entries of a row in its first n columns
unfoldable pub gather : {A : Type 0} → (ℕ → ℕ → A) → ℕ → (ℕ → Cell) → List A
gather emit zero row = []
gather emit (suc n) row = gather emit n row ++ one emit n (row n)

-- the entries of the first r rows of n columns
unfoldable pub flatten : {A : Type 0} → (ℕ → ℕ → A) → ℕ → (ℕ → ℕ → Cell) → ℕ → List A
flatten emit n cell zero = []
flatten emit n cell (suc r) = flatten emit n cell r ++ gather emit n (cell r)

-- the column numbers and the values of a grid's entries
abbrev pub grid_columns : Grid → List ℕ
grid_columns g = flatten column g.cols g.cell g.rows

abbrev pub grid_values : Grid → List ℕ
grid_values g = flatten value g.cols g.cell g.rows

-- "A grid's entries are its values": their number
abbrev pub entry_count : Grid → ℕ
entry_count g = length (grid_columns g)
