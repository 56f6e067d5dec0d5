-- The position of a cell of a valid matrix is within bounds.
use Rattle.std.proofs.Common.{None, Some}
use Prim.Native.Nat.{ℕ, ◌+◌, ◌-◌, ◌≤◌, ◌<◌}
use native.Mathlib.Omega.{arith}
use mathlib.Core.Path.{◌≡◌, refl, ap}
use mathlib.Core.Bool.{true}
use mathlib.Core.List.{List}
use Rattle.limits.specs.Limits.{max_entries}
use Rattle.words.specs.Words.{at}
use Rattle.grid.specs.Cell.{Cell}
use Rattle.grid.specs.Entries.{column}
use Rattle.grid.specs.Position.{entry_position, AbsentAt, PresentAt}
use Rattle.matrix.specs.Layout.{starts_at, rows, cols, start, entries, cell_of, grid_of}
use Rattle.matrix.specs.Valid.{valid}
use Rattle.matrix.proofs.Facts.{matrix_made, row_span}
use Rattle.encoding.proofs.Canonical.{valid_before}
use Rattle.edits.specs.Changes.{InMatrix, Bounded}
use Rattle.edits.proofs.Around.{cell_count, around, around_length}

-- a row and a column of a valid matrix
module _ {s : List ℕ} {i j : ℕ} (m : InMatrix s i j) where
  pub in_valid : valid s ≡ true
  in_valid = matrix_made s m.matrix

  -- the entries before the cell, and its own, are among those of the first k rows
  position_before : (c : Cell) → cell_of s i j ≡ c → (k : ℕ) → i < k → k ≤ rows s
      → entry_position (grid_of s) i j + cell_count c ≤ start s k
  position_before c e k l d =
      let w = around column (cols s) (cell_of s) i j k l m.col in
      omega (
        arith,
        around_length column w (cell_of s) (λ r a f. refl),
        ap cell_count e,
        valid_before s in_valid k d,
      )

  -- and among the N
  position_most : (c : Cell) → cell_of s i j ≡ c → entry_position (grid_of s) i j + cell_count c ≤ entries s
  position_most c e =
      omega (arith, position_before c e (rows s) m.row (omega arith), m.matrix.starts.last)

  -- a position is within N
  pub absent_within : {p : ℕ} → AbsentAt (grid_of s) i j p → p ≤ entries s
  absent_within a = omega (arith, position_most None a.cell, a.position)

  pub present_below : {p : ℕ} → PresentAt (grid_of s) i j p → p < entries s
  present_below a = omega (arith, position_most (Some a.value) a.cell, a.position)

  -- each later row start counts the entry; this is what shifting them requires
  pub later_starts : (c : Cell) → cell_of s i j ≡ c
      → Bounded (cell_count c) max_entries (i + 1 + starts_at) (rows s + 1 + starts_at) s
  later_starts c e = record {
    ordered = omega (arith, m.row);
    inside = omega (arith, m.matrix.header.fits);
    least = λ k a b.
        let q : k - starts_at + starts_at ≡ k = omega arith in
        omega (arith, position_before c e (k - starts_at) (omega arith) (omega arith), ap (at s) q);
    most = λ k a b.
        let q : k - (starts_at + 1) + 1 + starts_at ≡ k = omega arith in
        let t = (row_span s m.matrix.starts (k - (starts_at + 1)) (omega arith)).top in
        omega (arith, ap (at s) q, m.matrix.header.few);
  }
