-- Totals depend only on the cells of a row within its columns, and of a grid within its shape.
use Prim.Native.Nat.{ℕ, ◌<◌}
use mathlib.Core.Path.{◌≡◌, ap}
use Rattle.grid.specs.Cell.{Cell}
use Rattle.grid.specs.Grid.{Grid, Same}
use Rattle.grid.specs.Entries.{value}
use Rattle.grid.proofs.Gather.{gather_same}
use Rattle.grid.proofs.Same.{same_entries}
use Rattle.operators.specs.declared.Monoid.{Monoid}
use Rattle.operators.specs.Operators.{monoid_op}
use Rattle.reductions.specs.Reductions.{total, reduced, reduced_row, identity_word, grid_total}

pub row_same : (m : Monoid) (n : ℕ) (f g : ℕ → Cell) → ((j : ℕ) → j < n → f j ≡ g j)
    → reduced_row m n f ≡ reduced_row m n g
unfolding reduced_row
row_same m n f g h = ap (reduced m) (gather_same value n f g h)

pub total_same : (m : Monoid) (g h : Grid) → Same g h → grid_total m g ≡ grid_total m h
unfolding grid_total
total_same m g h s = ap (total (monoid_op m) (identity_word m)) (same_entries g h s value)
