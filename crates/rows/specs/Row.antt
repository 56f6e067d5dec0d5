-- A sparse row in two lists of equal length: column numbers, and the values beside them.
use Rattle.std.specs.Prelude.{ℕ, suc, ◌+◌, ◌<◌, ◌≡◌, List, [], ◌∷◌, Bool, true, cond, length, take, ltb, leb, eqb, None, Some}
use Rattle.words.specs.Words.{at}
use Rattle.conditions.specs.Tests.{◌and◌}
use Rattle.grid.specs.Cell.{Cell}
use Rattle.grid.specs.Entries.{column, value, gather}

-- "Column numbers are below C and rise strictly within a row": each is at least `low`, and the next above it
abbrev pub rising : ℕ → ℕ → List ℕ → Bool
rising bound low [] = true
rising bound low (c ∷ l) = leb low c and (ltb c bound and rising bound (c + 1) l)

-- the cell at column j: the value beside that column number, or none
unfoldable pub lookup : List ℕ → List ℕ → ℕ → Cell
lookup [] vals j = None
lookup (c ∷ cols) [] j = None
lookup (c ∷ cols) (v ∷ vals) j = cond (eqb c j) (Some v) (lookup cols vals j)

-- how many column numbers of a rising row are below j: where column j is, or would be put to keep the order
unfoldable pub position : ℕ → List ℕ → ℕ
position j [] = 0
position j (c ∷ l) = cond (ltb c j) (suc (position j l)) 0

-- each column number is above those before it
pub record Rises (cols : List ℕ) : Type 0 where
  pub up : (a b : ℕ) → a < b → b < length cols → at cols a < at cols b

-- the facts of a valid row of n columns
pub record Row (n : ℕ) (cols vals : List ℕ) : Type 0 where
  pub even : length vals ≡ length cols
  pub rises : Rises cols
  pub small : (a : ℕ) → a < length cols → at cols a < n

-- a row that was left at the front of two buffers: e entries, which are those of the cells f in the first n columns
pub record Holds (n : ℕ) (f : ℕ → Cell) (e : ℕ) (cols vals : List ℕ) : Type 0 where
  pub count : e ≡ length (gather column n f)
  pub columns : take e cols ≡ gather column n f
  pub values : take e vals ≡ gather value n f
