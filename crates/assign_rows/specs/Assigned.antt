-- One row of an assign, in a map of bits and the values beside it: what is put at the listed columns, and what is kept at
-- the others.
use Rattle.std.specs.Prelude.{ℕ, ◌<◌, ◌≡◌, List, cond, length, eqb, None}
use Rattle.words.specs.Words.{at}
use Rattle.grid.specs.Cell.{Cell}
use Rattle.rows.specs.Row.{lookup}
use Rattle.bit_rows.specs.Bits.{flagged, Tracked}
use Rattle.extract_rows.specs.Indices.{Indices, Inverse}

-- the list names columns of a row of n places
abbrev pub Below : ℕ → List ℕ → Type 0
Below n list = (k : ℕ) → k < length list → at list k < n

-- each once, and inv is its inverse
pub record Listed (n : ℕ) (list inv : List ℕ) : Type 0 where
  pub indices : Indices list
  pub below : Below n list
  pub inverse : Inverse list inv

-- column k of A's row stands at the column that the list has at k, and nothing at the others
pub record AtListed (list cols vals : List ℕ) (top : ℕ) (map cells : List ℕ) : Type 0 where
  pub tracked : Tracked top map
  pub listed : (k : ℕ) → k < length list → flagged map cells (at list k) ≡ lookup cols vals k
  pub others : (j : ℕ) → ((k : ℕ) → k < length list → at list k ≡ j → ⊥) → flagged map cells j ≡ None

-- nothing stands at the columns that the list does not name
abbrev pub OnlyListed : List ℕ → List ℕ → List ℕ → Type 0
OnlyListed inv map cells = (j : ℕ) → at inv j ≡ 0 → flagged map cells j ≡ None

-- the row `new` at the columns that the list names, and `old` at the others
abbrev pub with_unlisted : List ℕ → (ℕ → Cell) → (ℕ → Cell) → ℕ → Cell
with_unlisted inv old new j = cond (eqb (at inv j) 0) (old j) (new j)
