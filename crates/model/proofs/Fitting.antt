-- Models that a store of n words can hold: eight slots, every grid within the limits, and all within the length.
use Prim.Native.Nat.{ℕ, zero, suc, ◌+◌, ◌≤◌, ◌<◌}
use native.Mathlib.Omega.{arith}
use native.Mathlib.Nat.{le_refl}
use mathlib.Core.Path.{◌≡◌, refl, sym, ap, ◌∙◌}
use mathlib.Core.Bool.{Bool, false, cond, false≢true}
use mathlib.Core.List.{[], ◌∷◌}
use lib.ListN.{length, length-set}
use lib.Seq.{set-get_or}
use lib.Dec.{ltb}
use borrow.Author.Tests.{ltb-false}
use Rattle.limits.specs.Limits.{slot_count, max_entries}
use Rattle.grid.specs.Grid.{Grid}
use Rattle.grid.specs.Entries.{entry_count}
use Rattle.grid.specs.Size.{grid_size, Within}
use Rattle.refusals.specs.Cases.{first_applying}
use Rattle.refusals.proofs.Cases.{later}
use Rattle.model.specs.Model.{
  Slot,
  vacant,
  holding,
  Model,
  slot_of,
  put,
  is_vacant,
  grid_in,
  grid_at,
  slot_size,
  sizes,
  words_needed,
  needed_with,
}
use Rattle.model.specs.Calls.{fit_cases}

abbrev pub WithinSlot : Slot → Type 0
WithinSlot vacant = Unit {0}
WithinSlot (holding v g) = Within g

pub record Fitting (n : ℕ) (m : Model) : Type 0 where
  pub slots : length m ≡ slot_count
  pub within : (k : ℕ) → WithinSlot (slot_of m k)
  pub room : words_needed m ≤ n

-- one slot changed
put_within : (m : Model) (k : ℕ) (x : Slot) → ((j : ℕ) → WithinSlot (slot_of m j)) → WithinSlot x
    → (j : ℕ) → WithinSlot (slot_of (put m k x) j)
put_within [] k x f w j = f j
put_within (y ∷ m) zero x f w zero = w
put_within (y ∷ m) zero x f w (suc j) = f (suc j)
put_within (y ∷ m) (suc k) x f w zero = f zero
put_within (y ∷ m) (suc k) x f w (suc j) = put_within m k x (λ i. f (suc i)) w j

-- a slot that is no smaller needs no less room
pub sizes_more : (m : Model) (k : ℕ) (x y : Slot) → slot_size x ≤ slot_size y → sizes (put m k x) ≤ sizes (put m k y)
sizes_more [] k x y h = le_refl 0
sizes_more (z ∷ m) zero x y h = omega arith
sizes_more (z ∷ m) (suc k) x y h = let i = sizes_more m k x y h in omega arith

sizes_put : (m : Model) (k : ℕ) (x : Slot) → slot_size x ≤ slot_size (slot_of m k) → sizes (put m k x) ≤ sizes m
sizes_put m k x h =
    let i = sizes_more m k x (slot_of m k) h in let e = ap sizes (set-get_or m k vacant) in omega arith

-- the room with a grid in slot k, whatever its revision
pub needed_with_lem : (m : Model) (k v : ℕ) (g : Grid) → words_needed (put m k (holding v g)) ≡ needed_with m k g
needed_with_lem m k v g =
    let i = sizes_more m k (holding v g) (holding 0 g) (omega arith) in
    let j = sizes_more m k (holding 0 g) (holding v g) (omega arith) in
    omega arith

-- what a slot that is not empty holds
within_grid : (x : Slot) → is_vacant x ≡ false → WithinSlot x → Within (grid_in x)
within_grid vacant e w = absurd (false≢true (sym e))
within_grid (holding v g) e w = w

size_grid : (x : Slot) → is_vacant x ≡ false → slot_size x ≡ grid_size (grid_in x)
size_grid vacant e = absurd (false≢true (sym e))
size_grid (holding v g) e = refl

module _ (n : ℕ) (m : Model) (h : Fitting n m) where
  -- what is put fits
  pub put_fits : (k : ℕ) (x : Slot) → WithinSlot x → words_needed (put m k x) ≤ n → Fitting n (put m k x)
  put_fits k x w r = record { slots = length-set m k x ∙ h.slots; within = put_within m k x h.within w; room = r }

  -- a slot emptied
  pub dropped_fits : (k : ℕ) → Fitting n (put m k vacant)
  dropped_fits k =
      let s = sizes_put m k vacant (omega arith) in
      let r = h.room in
      put_fits k vacant tt (omega arith)

  -- a grid of the shape of slot k's
  module _ (k : ℕ) (g : Grid) (full : is_vacant (slot_of m k) ≡ false) (p : g.rows ≡ (grid_at m k).rows)
      (q : g.cols ≡ (grid_at m k).cols) where
    shaped : entry_count g ≤ max_entries → Within g
    shaped f =
        let w = within_grid (slot_of m k) full (h.within k) in
        record { row_range = rw p w.row_range; col_range = rw q w.col_range; few = f }

    -- where neither 10 nor 11 applies
    pub shaped_fits : (v : ℕ) → first_applying (fit_cases n m k g) ≡ 0 → Fitting n (put m k (holding v g))
    shaped_fits v z =
        let h₁ = later (ltb max_entries (entry_count g)) 10 _ refl z in
        let h₂ = later (ltb n (needed_with m k g)) 11 0 refl h₁.rest in
        put_fits k (holding v g) (shaped (ltb-false _ _ h₁.here))
        (omega (arith, needed_with_lem m k v g, ltb-false n (needed_with m k g) h₂.here))

    -- with no more entries it needs no more room
    pub fewer_fits : (v : ℕ) → entry_count g ≤ entry_count (grid_at m k) → Fitting n (put m k (holding v g))
    fewer_fits v f =
        let w = (within_grid (slot_of m k) full (h.within k)).few in
        let e = size_grid (slot_of m k) full in
        let s = sizes_put m k (holding v g) (omega arith) in
        let r = h.room in
        put_fits k (holding v g) (shaped (omega arith)) (omega arith)
