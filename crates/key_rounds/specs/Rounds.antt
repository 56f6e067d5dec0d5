-- "Keys behind doors" on plain grids. `locks` has a row for each key and a column for each door, `cabinets` a row for
-- each door and a column for each key; "entries count whatever their value".
use Rattle.std.specs.Prelude.{ℕ, zero, suc, ◌+◌, ◌≡◌, Bool, true, false, cond, None, Some}
use Rattle.conditions.specs.Tests.{◌and◌}
use Rattle.grid.specs.Cell.{Cell}
use Rattle.grid.specs.Grid.{Grid}

infixr 15 ◌or◌
-- one of two tests holds
unfoldable pub ◌or◌ : Bool → Bool → Bool
◌or◌ true b = true
◌or◌ false b = b

-- the test holds at some number below n
unfoldable pub some : ℕ → (ℕ → Bool) → Bool
some zero p = false
some (suc n) p = some n p or p n

-- at how many numbers below n the test holds
unfoldable pub count : ℕ → (ℕ → Bool) → ℕ
count zero p = 0
count (suc n) p = count n p + cond (p n) 1 0

-- whether a cell has a value: "entries count whatever their value"
unfoldable pub filled : Cell → Bool
filled None = false
filled (Some v) = true

-- the columns where one of the named rows has an entry
unfoldable pub reached : Grid → (ℕ → Bool) → ℕ → Bool
reached g from j = some g.rows (λ i. from i and filled (g.cell i j))

-- "Keys after round 0 are those in hand"; "keys after round n+1 are the keys after round n and those behind the doors
-- after round n"
unfoldable pub keys_after : Grid → Grid → (ℕ → Bool) → ℕ → ℕ → Bool
keys_after locks cabinets hand zero k = hand k
keys_after locks cabinets hand (suc n) k =
    keys_after locks cabinets hand n k or reached cabinets (reached locks (keys_after locks cabinets hand n)) k

-- "Doors after round n are what the keys after round n open"
unfoldable pub doors_after : Grid → Grid → (ℕ → Bool) → ℕ → ℕ → Bool
doors_after locks cabinets hand n d = reached locks (keys_after locks cabinets hand n) d

-- the first cell where it has a value, else the second
abbrev pub earlier : Cell → Cell → Cell
earlier None c = c
earlier (Some r) c = Some r

-- the first of the rounds before round n in which a door opens
unfoldable pub first_before : Grid → Grid → (ℕ → Bool) → ℕ → ℕ → Cell
first_before locks cabinets hand zero d = None
first_before locks cabinets hand (suc n) d =
    earlier (first_before locks cabinets hand n d) (cond (doors_after locks cabinets hand n d) (Some n) None)

-- "each with the first round it opens in", within an allowance of rounds
abbrev pub first_round : Grid → Grid → (ℕ → Bool) → ℕ → ℕ → Cell
first_round locks cabinets hand allowance d = first_before locks cabinets hand (suc allowance) d

-- "a strip of keys in hand"
abbrev pub in_hand : Grid → ℕ → Bool
in_hand vector k = filled (vector.cell 0 k)

-- "The answer is a new strip of doors .. each with the first round it opens in"
abbrev pub door_vector : Grid → Grid → Grid → ℕ → Grid
door_vector locks cabinets vector allowance =
    record { rows = 1; cols = locks.cols; cell = λ i. first_round locks cabinets (in_hand vector) allowance }

-- "keys by doors, doors by keys"
pub record Fitting (locks cabinets : Grid) : Type 0 where
  pub doors : cabinets.rows ≡ locks.cols
  pub keys : cabinets.cols ≡ locks.rows
