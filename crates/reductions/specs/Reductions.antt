-- Reduction by a monoid: document 02, A4. "Add reduce by a monoid: rows into a strip 1 by R, holding an entry exactly for the
-- rows with entries, or a whole sheet into one number, which is the monoid's identity for an empty sheet".
use Rattle.std.specs.Prelude.{◌≡◌, refl, List, [], ◌∷◌, ℕ, zero, suc, pos, neg_ℤ, None, Some}
use Rattle.twos_complement.specs.TwosComplement.{signed, word}
use Rattle.grid.specs.Cell.{Cell}
use Rattle.grid.specs.Grid.{Grid, empty_grid}
use Rattle.grid.specs.Entries.{value, one, gather, flatten, grid_values}
use Rattle.operators.specs.declared.BinaryOp.{BinaryOp}
use Rattle.operators.specs.declared.Monoid.{Monoid}
use Rattle.operators.specs.declared.Monoid.TheVariants.{Plus, Times, Min, Max}
use Rattle.operators.specs.Operators.{binary_word, monoid_op}

-- x and then each of the values, from the first to the last
abbrev pub total : BinaryOp → ℕ → List ℕ → ℕ
total op x [] = x
total op x (y ∷ ys) = total op (binary_word op x y) ys

-- the values of a row: "an entry exactly for the rows with entries"
abbrev pub reduced : Monoid → List ℕ → Cell
reduced m [] = None
reduced m (x ∷ xs) = Some (total (monoid_op m) x xs)

-- a row of n columns
unfoldable pub reduced_row : Monoid → ℕ → (ℕ → Cell) → Cell
reduced_row m n row = reduced m (gather value n row)

-- what changes no value: proved in proofs/Identities
abbrev pub identity_word : Monoid → ℕ
identity_word Plus = 0
identity_word Times = 1
identity_word Min = 2147483647
identity_word Max = 2147483648

-- "a whole sheet into one number, which is the monoid's identity for an empty sheet": its values row by row and from left
-- to right
unfoldable pub grid_total : Monoid → Grid → ℕ
grid_total m g = total (monoid_op m) (identity_word m) (grid_values g)

-- a row of three cells
abbrev three : Cell → Cell → Cell → ℕ → Cell
three a b c zero = a
three a b c (suc zero) = b
three a b c (suc (suc j)) = c

-- an absent cell is left out, and a total of 0 is an entry: 5, nothing, -5
total_zero : reduced_row Plus 3 (three (Some 5) None (Some 4294967291)) ≡ Some 0
unfolding reduced_row gather one binary_word signed word
total_zero = refl

-- a row without entries has no total, and not the identity
no_total : reduced_row Times 3 (λ j. None) ≡ None
unfolding reduced_row gather one
no_total = refl

-- one entry is its own total
lone_total : reduced_row Max 3 (three None (Some 7) None) ≡ Some 7
unfolding reduced_row gather one
lone_total = refl

-- MIN and MAX by the sign, TIMES wrapping: 5, 3, -5
min_total : reduced_row Min 3 (three (Some 5) (Some 3) (Some 4294967291)) ≡ Some 4294967291
unfolding reduced_row gather one binary_word signed word
min_total = refl

max_total : reduced_row Max 3 (three (Some 5) (Some 3) (Some 4294967291)) ≡ Some 5
unfolding reduced_row gather one binary_word signed word
max_total = refl

times_total : reduced_row Times 3 (three (Some 65536) (Some 65536) (Some 3)) ≡ Some 0
unfolding reduced_row gather one binary_word signed word
times_total = refl

-- a whole grid: two rows of 1, 2, 3
abbrev two_rows : Grid
two_rows = record { rows = 2; cols = 3; cell = λ i j. three (Some 1) (Some 2) (Some 3) j }

whole_total : grid_total Plus two_rows ≡ 12
unfolding grid_total flatten gather one binary_word signed word
whole_total = refl

-- only the cells within the shape count
narrow_total : grid_total Plus (record { rows = 1; cols = 2; cell = two_rows.cell }) ≡ 3
unfolding grid_total flatten gather one binary_word signed word
narrow_total = refl

-- the identities, of empty grids: the largest value for MIN and the smallest for MAX
empty_plus : grid_total Plus (empty_grid 2 3) ≡ 0
unfolding grid_total flatten gather one
empty_plus = refl

empty_times : grid_total Times (empty_grid 2 3) ≡ 1
unfolding grid_total flatten gather one
empty_times = refl

empty_min : signed (grid_total Min (empty_grid 2 3)) ≡ pos 2147483647
unfolding grid_total flatten gather one signed
empty_min = refl

empty_max : signed (grid_total Max (empty_grid 2 3)) ≡ neg_ℤ (pos 2147483648)
unfolding grid_total flatten gather one signed
empty_max = refl
