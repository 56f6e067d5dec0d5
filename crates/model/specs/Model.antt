-- The model of a store (document 01, "The shelf": "The wall of eight plain grids"). It knows no words: of a grid only the
-- size, and of a store only the length.
use Rattle.std.specs.Prelude.{ℕ, ◌+◌, Bool, true, false, List, [], ◌∷◌, get_or, set, replicate}
use Rattle.limits.specs.Limits.{slot_count}
use Rattle.grid.specs.Grid.{Grid, empty_grid}
use Rattle.grid.specs.Size.{grid_size}

-- "A place is empty or holds one grid"; document 02, A12: "the wall of grids carries revisions"
pub data Slot : Type 0 where
  vacant : Slot
  holding : (revision : ℕ) → Grid → Slot

-- the slots in order
abbrev pub Model : Type 0
Model = List Slot

-- "eight places, all empty at first"
abbrev pub fresh : Model
fresh = replicate slot_count vacant

abbrev pub slot_of : Model → ℕ → Slot
slot_of m k = get_or m k vacant

-- the one way into a slot: it holds x, whatever was there
abbrev pub put : Model → ℕ → Slot → Model
put m k x = set m k x

abbrev pub is_vacant : Slot → Bool
is_vacant vacant = true
is_vacant (holding v g) = false

-- the grid of a slot that holds one. Of an empty slot it is never used: 13 comes before.
abbrev pub grid_in : Slot → Grid
grid_in vacant = empty_grid 0 0
grid_in (holding v g) = g

abbrev pub grid_at : Model → ℕ → Grid
grid_at m k = grid_in (slot_of m k)

-- and its revision
abbrev pub revision_in : Slot → ℕ
revision_in vacant = 0
revision_in (holding v g) = v

abbrev pub revision_at : Model → ℕ → ℕ
revision_at m k = revision_in (slot_of m k)

-- "its size is that of its sheet"; an empty slot has none
abbrev pub slot_size : Slot → ℕ
slot_size vacant = 0
slot_size (holding v g) = grid_size g

abbrev pub sizes : Model → ℕ
sizes [] = 0
sizes (x ∷ m) = slot_size x + sizes m

-- "room is needed for 8 plus the sizes of all sheets"
abbrev pub words_needed : Model → ℕ
words_needed m = slot_count + sizes m

-- with grid g in slot k: it takes as many words with any revision
abbrev pub needed_with : Model → ℕ → Grid → ℕ
needed_with m k g = words_needed (put m k (holding 0 g))
