-- How many entries a grid has: fewer where fewer cells are present, none where none is.
use Rattle.std.proofs.Common.{None, Some}
use Prim.Native.Nat.{ℕ, zero, suc, ◌≤◌}
use native.Mathlib.Omega.{arith}
use native.Mathlib.Nat.{le_refl}
use mathlib.Core.Path.{◌≡◌, refl, ap}
use mathlib.Core.Bool.{Bool, true, false, cond}
use mathlib.Core.List.{[]}
use lib.ListN.{length, length-append}
use lib.Dec.{eqb}
use Rattle.grid.specs.Cell.{Cell}
use Rattle.grid.specs.Grid.{Grid, empty_grid}
use Rattle.grid.specs.Entries.{column, one, gather, flatten, entry_count}
use Rattle.grid.specs.Update.{with_cell}

-- ---- no cell is present
pub gather_absent : (emit : ℕ → ℕ → ℕ) (n : ℕ) → gather emit n (λ j. None) ≡ []
unfolding gather one
gather_absent emit zero = refl
gather_absent emit (suc n) = rw (gather_absent emit n)

pub flatten_absent : (emit : ℕ → ℕ → ℕ) (n r : ℕ) → flatten emit n (λ i j. None) r ≡ []
unfolding flatten
flatten_absent emit n zero = refl
flatten_absent emit n (suc r) = rw (flatten_absent emit n r, gather_absent emit n)

-- the empty grid has no entries
pub empty_count : (r c : ℕ) → entry_count (empty_grid r c) ≡ 0
empty_count r c = ap length (flatten_absent column c r)

-- ---- fewer entries, cell by cell
pub gather_fewer : (n : ℕ) (f g : ℕ → Cell) → ((j : ℕ) → length (one column j (f j)) ≤ length (one column j (g j)))
    → length (gather column n f) ≤ length (gather column n g)
unfolding gather
gather_fewer zero f g h = le_refl 0
gather_fewer (suc n) f g h =
    let i = gather_fewer n f g h in
    let k = h n in
    let a = length-append (gather column n f) (one column n (f n)) in
    let b = length-append (gather column n g) (one column n (g n)) in
    omega arith

pub flatten_fewer : (n : ℕ) (f g : ℕ → ℕ → Cell) (r : ℕ)
    → ((i j : ℕ) → length (one column j (f i j)) ≤ length (one column j (g i j)))
    → length (flatten column n f r) ≤ length (flatten column n g r)
unfolding flatten
flatten_fewer n f g zero h = le_refl 0
flatten_fewer n f g (suc r) h =
    let i = flatten_fewer n f g r h in
    let k = gather_fewer n (f r) (g r) (h r) in
    let a = length-append (flatten column n f r) (gather column n (f r)) in
    let b = length-append (flatten column n g r) (gather column n (g r)) in
    omega arith

-- a cell cleared leaves no more entries
pub cleared_count : (g : Grid) (i j : ℕ) → entry_count (with_cell g i j None) ≤ entry_count g
unfolding one
cleared_count g i j =
    flatten_fewer g.cols _ g.cell g.rows (λ r c. cell (eqb r i) (eqb c j) c (g.cell r c))
  where
    cell : (a b : Bool) (c : ℕ) (x : Cell)
        → length (one column c (cond a (cond b None x) x)) ≤ length (one column c x)
    cell true true c None = omega arith
    cell true true c (Some v) = omega arith
    cell true false c x = le_refl _
    cell false b c x = le_refl _
