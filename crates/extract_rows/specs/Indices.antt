-- An index list of extract, and its inverse.
use Rattle.std.specs.Prelude.{ℕ, ◌+◌, ◌≤◌, ◌<◌, ◌≡◌, List, length, set, take, drop}
use Rattle.limits.specs.Limits.{max_cols}
use Rattle.words.specs.Words.{at}
use Rattle.bit_rows.specs.Bits.{Marking}

-- no longer than a row, every index is a column of one, and none stands twice
pub record Indices (list : List ℕ) : Type 0 where
  pub few : length list ≤ max_cols
  pub index : (a : ℕ) → a < length list → at list a < max_cols
  pub once : (a b : ℕ) → a < b → b < length list → at list a ≡ at list b → ⊥

-- a word for each column of a row: the places of the indexes that the list has before place n, counted from 1, and 0 at
-- the columns that it does not name
pub record InverseTo (n : ℕ) (list inv : List ℕ) : Type 0 where
  pub sized : length inv ≡ max_cols
  pub named : (j : ℕ) → j < n → at inv (at list j) ≡ j + 1
  pub only : (k j : ℕ) → at inv k ≡ j + 1 → (j < n) × (at list j ≡ k)

-- those of the whole list
abbrev pub Inverse : List ℕ → List ℕ → Type 0
Inverse list inv = InverseTo (length list) list inv

-- the inverses of two lists, one behind the other: of the second, then of the first
pub record Inverses (is js inv : List ℕ) : Type 0 where
  pub columns : Inverse js (take max_cols inv)
  pub rows : Inverse is (drop max_cols inv)

-- a value is put at its place, counted from 1, and marked there; at 0 nothing is
pub record Placed (place v top : ℕ) (map ov : List ℕ) (top' : ℕ) (map' ov' : List ℕ) : Type 0 where
  pub none : place ≡ 0 → (top' ≡ top) × (map' ≡ map) × (ov' ≡ ov)
  pub here : (j : ℕ) → place ≡ j + 1 → Marking j map top' map' × (ov' ≡ set ov j v)
