-- What `entry_at` tells of a cell; a position is no more than the number of entries; grids that agree have their entries
-- at the same positions. Cited where a matrix is changed in place, by the model, and where a read is packed.
use Rattle.std.proofs.Common.{None, Some}
use Prim.Native.Nat.{ℕ, zero, suc, ◌+◌, ◌≤◌, ◌<◌}
use native.Mathlib.Omega.{arith}
use native.Mathlib.Decide.{dec_lt}
use native.Mathlib.Nat.{le_refl}
use mathlib.Core.Path.{◌≡◌, refl, sym, ap, ◌∙◌}
use mathlib.Core.Bool.{Bool, true, false, false≢true}
use lib.ListN.{length, length-append}
use Rattle.grid.specs.Cell.{Cell}
use Rattle.grid.specs.declared.EntryAt.{EntryAt}
use Rattle.grid.specs.declared.EntryAt.TheVariants as entry
use Rattle.grid.specs.Grid.{Grid, Same}
use Rattle.grid.specs.Entries.{column, one, gather, flatten, entry_count}
use Rattle.grid.specs.Position.{entry_position, entry_of, position_of, entry_at, AbsentAt, PresentAt}
use Rattle.grid.proofs.Gather.{gather_same, flatten_same, flatten_next, flatten_grows}

is_present : EntryAt → Bool
is_present (entry.Absent p) = false
is_present (entry.Present v p) = true

-- an absent cell and its position
pub absent_at : {g : Grid} {i j p : ℕ} → entry_at g i j ≡ entry.Absent p → AbsentAt g i j p
unfolding entry_at is_present
absent_at {g} {i} {j} {p} h = go (g.cell i j) refl
  where
    go : (c : Cell) → g.cell i j ≡ c → AbsentAt g i j p
    go None e = record { cell = e; position = sym (ap position_of (rw e at h)) }
    go (Some v) e = absurd (false≢true (sym (ap is_present (rw e at h))))

-- a present cell and its position
pub present_at : {g : Grid} {i j v p : ℕ} → entry_at g i j ≡ entry.Present v p → PresentAt g i j p
unfolding entry_at is_present
present_at {g} {i} {j} {v} {p} h = go (g.cell i j) refl
  where
    go : (c : Cell) → g.cell i j ≡ c → PresentAt g i j p
    go None e = absurd (false≢true (ap is_present (rw e at h)))
    go (Some u) e = record { value = u; cell = e; position = sym (ap position_of (rw e at h)) }

-- ---- no more than the entries of the grid
gather_grows : (row : ℕ → Cell) (j n : ℕ) → j ≤ n → length (gather column j row) ≤ length (gather column n row)
unfolding gather
gather_grows row j zero l = let e : j ≡ zero = omega arith in rw e (le_refl 0)
gather_grows row j (suc n) l = go (dec_lt n j) (λ m. gather_grows row j n m)
  where
    go : Dec (n < j) → (j ≤ n → length (gather column j row) ≤ length (gather column n row))
        → length (gather column j row) ≤ length (gather column (suc n) row)
    go (yes m) before = let e : j ≡ suc n = omega arith in rw e (le_refl _)
    go (no m) before =
        let b = before (omega arith) in
        let a = length-append (gather column n row) (one column n (row n)) in
        omega arith

position_most : (g : Grid) (i j : ℕ) → i < g.rows → j < g.cols → entry_position g i j ≤ entry_count g
position_most g i j l m =
    let a = gather_grows (g.cell i) j g.cols (omega arith) in
    let b = ap length (flatten_next column g.cols g.cell i) in
    let c = length-append (flatten column g.cols g.cell i) (gather column g.cols (g.cell i)) in
    let d = flatten_grows column g.cols g.cell (i + 1) g.rows (omega arith) in
    omega arith

-- of a cell, too
pub entry_most : (g : Grid) (i j : ℕ) → i < g.rows → j < g.cols → position_of (entry_at g i j) ≤ entry_count g
unfolding entry_at
entry_most g i j l m = go (g.cell i j)
  where
    go : (c : Cell) → position_of (entry_of c (entry_position g i j)) ≤ entry_count g
    go None = position_most g i j l m
    go (Some v) = position_most g i j l m

-- ---- an entry is at one place in grids that agree
module _ (g h : Grid) (i j : ℕ) (s : Same g h) (l : i < h.rows) (m : j < h.cols) where
  same_position : entry_position g i j ≡ entry_position h i j
  same_position =
      let a : length (flatten column g.cols g.cell i) ≡ length (flatten column h.cols h.cell i) =
      ap (λ (n : ℕ). length (flatten column n g.cell i)) s.cols
      ∙ ap length (flatten_same column h.cols g.cell h.cell i (λ r c p q. s.cell r c (omega arith) q)) in
      let b : length (gather column j (g.cell i)) ≡ length (gather column j (h.cell i)) =
      ap length (gather_same column j (g.cell i) (h.cell i) (λ c q. s.cell i c l (omega arith))) in
      omega arith

  pub same_entry : entry_at g i j ≡ entry_at h i j
  unfolding entry_at
  same_entry =
      ap (λ (c : Cell). entry_of c (entry_position g i j)) (s.cell i j l m) ∙ ap (entry_of (h.cell i j)) same_position

  pub same_absent : {p : ℕ} → AbsentAt h i j p → AbsentAt g i j p
  same_absent a = record { cell = s.cell i j l m ∙ a.cell; position = a.position ∙ sym same_position }
