-- The place of a column in a row, present or absent with a position (document 02, A11: "the entry's position .., or, for an
-- absent cell, the position where it would be put to keep the order", here among the entries of the row).
use Rattle.std.specs.Prelude.{ℕ, ◌+◌, ◌≤◌, ◌<◌, ◌≡◌, refl, List, [], ◌∷◌, Err, None, Ok, Result, Some}
use Rattle.words.specs.Words.{at}
use Rattle.grid.specs.Cell.{Cell}
use Rattle.grid.specs.declared.EntryAt.{EntryAt}
use Rattle.grid.specs.declared.EntryAt.TheVariants as entry
use Rattle.rows.specs.Row.{lookup, position}

-- a cell's place, from its position
abbrev pub place_of : Cell → ℕ → Result ℕ ℕ
place_of None p = Err p
place_of (Some v) p = Ok p

-- the place of column j; whether it is present does not depend on the values, so the columns stand for them
unfoldable pub column_at : ℕ → List ℕ → Result ℕ ℕ
column_at j cols = place_of (lookup cols cols j) (position j cols)

-- the position of a present column is below n
abbrev pub Inside : Result ℕ ℕ → ℕ → Type 0
Inside (Ok p) n = p < n
Inside (Err p) n = Unit {0}

-- the value beside a present column, or none
abbrev pub cell_beside : List ℕ → Result ℕ ℕ → Cell
cell_beside vals (Ok p) = Some (at vals p)
cell_beside vals (Err p) = None

-- a place among n columns: of one of them, or at most behind the last
abbrev pub Among : Result ℕ ℕ → ℕ → Type 0
Among (Ok p) n = p < n
Among (Err p) n = p ≤ n

-- the entry at the place of a column, before whose row the matrix has `start` entries
abbrev pub entry_beside : List ℕ → ℕ → Result ℕ ℕ → EntryAt
entry_beside vals start (Ok p) = entry.Present (at vals p) (start + p)
entry_beside vals start (Err p) = entry.Absent (start + p)

present_second : column_at 5 (2 ∷ 5 ∷ 7 ∷ []) ≡ Ok 1
unfolding column_at lookup position
present_second = refl

absent_between : column_at 6 (2 ∷ 5 ∷ 7 ∷ []) ≡ Err 2
unfolding column_at lookup position
absent_between = refl

absent_behind : column_at 8 (2 ∷ 5 ∷ 7 ∷ []) ≡ Err 3
unfolding column_at lookup position
absent_behind = refl

-- a word past the end reads as 0, and column 0 is absent all the same
absent_nothing : column_at 0 [] ≡ Err 0
unfolding column_at lookup position
absent_nothing = refl

-- 7 entries before the row: the position in the row is counted on
beside_second : entry_beside (4 ∷ 0 ∷ []) 7 (Ok 1) ≡ entry.Present 0 8
beside_second = refl

beside_end : entry_beside (4 ∷ 0 ∷ []) 7 (Err 2) ≡ entry.Absent 9
beside_end = refl
