-- Grids that agree in every cell of their shape: the same entries, and as many.
use Prim.Native.Nat.{ℕ}
use native.Mathlib.Omega.{arith}
use mathlib.Core.Path.{◌≡◌, refl, sym, ap, ◌∙◌}
use mathlib.Core.Bool.{cond}
use lib.ListN.{length}
use lib.Dec.{eqb}
use Rattle.limits.specs.Sizes.{size_of}
use Rattle.grid.specs.Cell.{Cell}
use Rattle.grid.specs.Grid.{Grid, Same}
use Rattle.grid.specs.Entries.{column, flatten, entry_count}
use Rattle.grid.specs.Update.{with_cell}
use Rattle.grid.specs.Size.{grid_size}
use Rattle.grid.proofs.Gather.{flatten_same}

-- a grid agrees with itself
pub same_refl : (g : Grid) → Same g g
same_refl g = record { rows = refl; cols = refl; cell = λ i j l m. refl }

-- and with what agrees with it, either way round and one after the other
pub same_sym : {g h : Grid} → Same g h → Same h g
same_sym s = record {
  rows = sym s.rows;
  cols = sym s.cols;
  cell = λ i j l m. let p = s.rows in let q = s.cols in sym (s.cell i j (omega arith) (omega arith));
}

pub same_trans : {g h k : Grid} → Same g h → Same h k → Same g k
same_trans s t = record {
  rows = s.rows ∙ t.rows;
  cols = s.cols ∙ t.cols;
  cell = λ i j l m.
      let p = t.rows in let q = t.cols in s.cell i j (omega arith) (omega arith) ∙ t.cell i j l m;
}

-- the same columns or values
pub same_entries : (g h : Grid) → Same g h → (emit : ℕ → ℕ → ℕ)
    → flatten emit g.cols g.cell g.rows ≡ flatten emit h.cols h.cell h.rows
same_entries g h s emit =
    rw (s.rows, s.cols) (flatten_same emit h.cols g.cell h.cell h.rows (λ i j l m. s.cell i j l m))

-- as many entries, and so the same size
pub same_count : (g h : Grid) → Same g h → entry_count g ≡ entry_count h
same_count g h s = ap length (same_entries g h s column)

pub same_size : (g h : Grid) → Same g h → grid_size g ≡ grid_size h
same_size g h s = ap (λ (r : ℕ). size_of r (entry_count g)) s.rows ∙ ap (size_of h.rows) (same_count g h s)

-- one cell changed in both
pub same_changed : (g h : Grid) (i j : ℕ) (x : Cell) → Same g h → Same (with_cell g i j x) (with_cell h i j x)
same_changed g h i j x s = record {
  rows = s.rows;
  cols = s.cols;
  cell = λ r c l m.
      ap (λ (y : Cell). cond (eqb r i) (cond (eqb c j) x y) y) (s.cell r c l m);
}
