-- Models that agree in every cell: slots, sizes, and the refusals that look at them.
use Prim.Native.Nat.{ℕ, zero, suc, ◌+◌}
use mathlib.Core.Path.{◌≡◌, refl, ap, ◌∙◌}
use mathlib.Core.List.{List, [], ◌∷◌}
use lib.ListN.{set}
use lib.Dec.{ltb}
use Rattle.limits.specs.Limits.{slot_count, max_entries}
use Rattle.answers.specs.Refusals.{too_many_entries, insufficient_space}
use Rattle.grid.specs.Grid.{Grid, Same}
use Rattle.grid.specs.Entries.{entry_count}
use Rattle.grid.proofs.Same.{same_refl, same_count, same_size}
use Rattle.refusals.specs.Cases.{Case, given}
use Rattle.model.specs.Model.{
  Slot,
  vacant,
  holding,
  Model,
  slot_of,
  put,
  is_vacant,
  grid_in,
  grid_at,
  revision_in,
  revision_at,
  slot_size,
  sizes,
  words_needed,
  needed_with,
}
use Rattle.model.specs.Calls.{no_grid, no_cell, cell_cases, no_slot, no_room, fit_cases}

-- both empty, or two grids that agree, with one revision
abbrev pub AlikeSlots : Slot → Slot → Type 0
AlikeSlots vacant vacant = Unit {0}
AlikeSlots vacant (holding u h) = ⊥
AlikeSlots (holding v g) vacant = ⊥
AlikeSlots (holding v g) (holding u h) = (v ≡ u) × Same g h

-- slot by slot
abbrev pub Alike : Model → Model → Type 0
Alike [] [] = Unit {0}
Alike [] (y ∷ m') = ⊥
Alike (x ∷ m) [] = ⊥
Alike (x ∷ m) (y ∷ m') = AlikeSlots x y × Alike m m'

-- a model agrees with itself
pub alike_refl : (m : Model) → Alike m m
alike_refl [] = tt
alike_refl (x ∷ m) = (one x, alike_refl m)
  where
    one : (x : Slot) → AlikeSlots x x
    one vacant = tt
    one (holding v g) = (refl, same_refl g)

-- slots at one place
pub alike_at : (m m' : Model) (k : ℕ) → Alike m m' → AlikeSlots (slot_of m k) (slot_of m' k)
alike_at [] [] k a = tt
alike_at [] (y ∷ m') k a = absurd a
alike_at (x ∷ m) [] k a = absurd a
alike_at (x ∷ m) (y ∷ m') zero a = a.0
alike_at (x ∷ m) (y ∷ m') (suc k) a = alike_at m m' k a.1

-- one slot put into both
pub alike_put : (m m' : Model) (k : ℕ) (x y : Slot) → Alike m m' → AlikeSlots x y → Alike (put m k x) (put m' k y)
alike_put [] [] k x y a s = tt
alike_put [] (z ∷ m') k x y a s = absurd a
alike_put (z ∷ m) [] k x y a s = absurd a
alike_put (z ∷ m) (v ∷ m') zero x y a s = (s, a.1)
alike_put (z ∷ m) (v ∷ m') (suc k) x y a s = (a.0, alike_put m m' k x y a.1 s)

pub alike_vacant : (x y : Slot) → AlikeSlots x y → is_vacant x ≡ is_vacant y
alike_vacant vacant vacant a = refl
alike_vacant vacant (holding u h) a = absurd a
alike_vacant (holding v g) vacant a = absurd a
alike_vacant (holding v g) (holding u h) a = refl

alike_grid : (x y : Slot) → AlikeSlots x y → Same (grid_in x) (grid_in y)
alike_grid vacant vacant a = same_refl (grid_in vacant)
alike_grid vacant (holding u h) a = absurd a
alike_grid (holding v g) vacant a = absurd a
alike_grid (holding v g) (holding u h) a = a.1

alike_revision : (x y : Slot) → AlikeSlots x y → revision_in x ≡ revision_in y
alike_revision vacant vacant a = refl
alike_revision vacant (holding u h) a = absurd a
alike_revision (holding v g) vacant a = absurd a
alike_revision (holding v g) (holding u h) a = a.0

alike_size : (x y : Slot) → AlikeSlots x y → slot_size x ≡ slot_size y
alike_size vacant vacant a = refl
alike_size vacant (holding u h) a = absurd a
alike_size (holding v g) vacant a = absurd a
alike_size (holding v g) (holding u h) a = same_size g h a.1

alike_sizes : (m m' : Model) → Alike m m' → sizes m ≡ sizes m'
alike_sizes [] [] a = refl
alike_sizes [] (y ∷ m') a = absurd a
alike_sizes (x ∷ m) [] a = absurd a
alike_sizes (x ∷ m) (y ∷ m') a =
    let e = alike_size x y a.0 in let f = alike_sizes m m' a.1 in rw (e, f)

alike_needed : (m m' : Model) → Alike m m' → words_needed m ≡ words_needed m'
alike_needed m m' a = ap (λ (n : ℕ). slot_count + n) (alike_sizes m m' a)

-- 10 and 11 by the numbers that they look at
abbrev counted : ℕ → ℕ → ℕ → List Case
counted count needed room =
    given too_many_entries (ltb max_entries count) ∷ given insufficient_space (ltb room needed) ∷ []

-- ---- the refusals
module _ (n : ℕ) (m m' : Model) (a : Alike m m') where
  pub grid_same : (k : ℕ) → Same (grid_at m k) (grid_at m' k)
  grid_same k = alike_grid (slot_of m k) (slot_of m' k) (alike_at m m' k a)

  pub revision_same : (k : ℕ) → revision_at m k ≡ revision_at m' k
  revision_same k = alike_revision (slot_of m k) (slot_of m' k) (alike_at m m' k a)

  -- 13
  pub no_grid_lem : (k : ℕ) → no_grid m k ≡ no_grid m' k
  no_grid_lem k = let e = alike_vacant (slot_of m k) (slot_of m' k) (alike_at m m' k a) in rw e

  -- 12, 13 and 7
  pub cell_cases_lem : (k i j : ℕ) → cell_cases m k i j ≡ cell_cases m' k i j
  cell_cases_lem k i j =
      let s = grid_same k in
      let e : no_cell (grid_at m k) i j ≡ no_cell (grid_at m' k) i j = rw (s.rows, s.cols) in
      ap (λ (x : Case). no_slot k ∷ x ∷ no_cell (grid_at m k) i j ∷ []) (no_grid_lem k)
      ∙ ap (λ (x : Case). no_slot k ∷ no_grid m' k ∷ x ∷ []) e

  -- the room with a grid put into slot k
  room_needed : (k : ℕ) (g g' : Grid) → Same g g' → needed_with m k g ≡ needed_with m' k g'
  room_needed k g g' s =
      alike_needed (put m k (holding 0 g)) (put m' k (holding 0 g'))
      (alike_put m m' k (holding 0 g) (holding 0 g') a (refl, s))

  -- 11, and 10 and 11
  pub room_same : (k : ℕ) (g g' : Grid) → Same g g' → no_room n m k g ≡ no_room n m' k g'
  room_same k g g' s = ap (λ (x : ℕ). given insufficient_space (ltb n x)) (room_needed k g g' s)

  pub fit_same : (k : ℕ) (g g' : Grid) → Same g g' → fit_cases n m k g ≡ fit_cases n m' k g'
  fit_same k g g' s =
      ap (λ (x : ℕ). counted x (needed_with m k g) n) (same_count g g' s)
      ∙ ap (λ (x : ℕ). counted (entry_count g') x n) (room_needed k g g' s)
