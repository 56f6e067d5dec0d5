-- A row as far as the mask lets it through.
use Rattle.std.specs.Prelude.{ℕ, ◌≡◌, List, true, false, length}
use Rattle.limits.specs.Limits.{max_cols}
use Rattle.grid.specs.Cell.{Cell}
use Rattle.operations.specs.declared.WriteBack.{WriteBack}
use Rattle.operations.specs.WriteBacks.{inside}
use Rattle.rows.specs.Row.{Row, Holds}

-- where there is a mask, mc and mv are its row
abbrev pub MaskKnown : WriteBack → List ℕ → List ℕ → Type 0
MaskKnown w mc mv = w.has_mask ≡ true → Row max_cols mc mv

-- a mask that is not complemented, without entries in the row
pub record NoneInside (w : WriteBack) (mc : List ℕ) : Type 0 where
  pub plain : w.complement ≡ false
  pub none : length mc ≡ 0

-- a row of n columns is left in two buffers, which at the places inside the mask has the cells f; m is the mask's row
pub record HoldsInside (w : WriteBack) (m : ℕ → Cell) (n : ℕ) (f : ℕ → Cell) (e : ℕ) (cols vals : List ℕ) : Type 0 where
  pub row : ℕ → Cell
  pub holds : Holds n row e cols vals
  pub same : (j : ℕ) → inside w (m j) ≡ true → row j ≡ f j
