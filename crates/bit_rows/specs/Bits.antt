-- A row of cells as a map of bits, a top word over it, and values at their places.
use Rattle.std.specs.Prelude.{ℕ, ◌+◌, ◌*◌, ◌/◌, ◌%◌, ◌^◌, ◌≤◌, ◌<◌, ◌≡◌, List, Bool, cond, not, length, eqb}
use Rattle.limits.specs.Limits.{max_cols}
use Rattle.words.specs.Words.{at}
use Rattle.grid.specs.Cell.{Cell}
use Rattle.rows.specs.Row.{Holds}
use Rattle.dense_rows.specs.Dense.{marked}

-- bit s of x
unfoldable pub bit : ℕ → ℕ → ℕ
bit x s = x / 2 ^ s % 2

-- r is x with bit s set
pub record SetBit (x s r : ℕ) : Type 0 where
  pub here : bit r s ≡ 1
  pub other : (t : ℕ) → (t ≡ s → ⊥) → bit r t ≡ bit x t

-- the words of a map, 64 places to each, and their places: as many as a row has, or somewhat more
abbrev pub map_words : ℕ
map_words = (max_cols + 63) / 64

abbrev pub map_places : ℕ
map_places = map_words * 64

-- the mark of column j
abbrev pub mark : List ℕ → ℕ → ℕ
mark map j = bit (at map (j / 64)) (j % 64)

-- the cell at column j: present where it is marked
unfoldable pub flagged : List ℕ → List ℕ → ℕ → Cell
flagged map cells j = marked (mark map j) (at cells j)

-- the top word tells which words of the map are in use
pub record Tracked (top : ℕ) (map : List ℕ) : Type 0 where
  pub size : length map ≡ map_words
  pub within : (w : ℕ) → map_words ≤ w → bit top w ≡ 0
  pub unused : (w : ℕ) → bit top w ≡ 0 → at map w ≡ 0

-- the map and the values beside it hold the row f
pub record Carries (f : ℕ → Cell) (top : ℕ) (map cells : List ℕ) : Type 0 where
  pub tracked : Tracked top map
  pub cell : (j : ℕ) → flagged map cells j ≡ f j

-- column j is marked, and the others are as they were
pub record Marking (j : ℕ) (map : List ℕ) (top' : ℕ) (map' : List ℕ) : Type 0 where
  pub tracked : Tracked top' map'
  pub here : mark map' j ≡ 1
  pub other : (k : ℕ) → (k ≡ j → ⊥) → mark map' k ≡ mark map k

-- whether the mark b lets a column through: where it is 1, or with complement where it is 0
abbrev pub lets : Bool → ℕ → Bool
lets complement b = cond complement (eqb b 0) (not (eqb b 0))

-- r has the bits of x that those of y let through
pub record KeptBits (complement : Bool) (x y r : ℕ) : Type 0 where
  pub bits : (s : ℕ) → bit r s ≡ cond (lets complement (bit y s)) (bit x s) 0
  pub none : x ≡ 0 → r ≡ 0

-- the map has the columns that `marks` lets through
pub record Kept (complement : Bool) (marks map map' : List ℕ) : Type 0 where
  pub size : length map' ≡ length map
  pub word : (w : ℕ) → KeptBits complement (at map w) (at marks w) (at map' w)

-- every marked column is a place of both buffers
pub record Room (map : List ℕ) (cols vals : ℕ) : Type 0 where
  pub in_cols : (j : ℕ) → mark map j ≡ 1 → j < cols
  pub in_vals : (j : ℕ) → mark map j ≡ 1 → j < vals

-- the same for the columns of one word, from column `base` on
pub record WordRoom (word base cols vals : ℕ) : Type 0 where
  pub in_cols : (s : ℕ) → s < 64 → bit word s ≡ 1 → base + s < cols
  pub in_vals : (s : ℕ) → s < 64 → bit word s ≡ 1 → base + s < vals

-- the cells of f before column j are written, e entries, and the values from j on stand in their places yet
pub record Collecting (f : ℕ → Cell) (ov₀ oc ov : List ℕ) (e j : ℕ) : Type 0 where
  pub most : e ≤ j
  pub out : Holds j f e oc ov
  pub rest : (k : ℕ) → j ≤ k → at ov k ≡ at ov₀ k

-- the cells of f in the 64 columns from `base` on are those that the word marks
abbrev pub Says : ℕ → ℕ → List ℕ → (ℕ → Cell) → Type 0
Says word base ov₀ f = (s : ℕ) → s < 64 → f (base + s) ≡ marked (bit word s) (at ov₀ (base + s))

-- the columns of a word follow those before them, whatever these are
abbrev pub WordCollected : ℕ → ℕ → List ℕ → List ℕ → ℕ → List ℕ → List ℕ → ℕ → Type 0
WordCollected word base oc ov e oc' ov' e' =
    (f : ℕ → Cell) (ov₀ : List ℕ) → Says word base ov₀ f → Collecting f ov₀ oc ov e base
    → Collecting f ov₀ oc' ov' e' (base + 64)
