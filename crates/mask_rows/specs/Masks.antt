-- The row of a mask as marks, and the marked columns inside it.
use Rattle.std.specs.Prelude.{ℕ, ◌≡◌, List, Bool, true, cond, Some}
use Rattle.limits.specs.Limits.{max_cols}
use Rattle.grid.specs.Cell.{Cell}
use Rattle.operations.specs.declared.WriteBack.{WriteBack}
use Rattle.operations.specs.WriteBacks.{mask_holds, inside}
use Rattle.rows.specs.Row.{lookup, Row}
use Rattle.bit_rows.specs.Bits.{mark, Tracked}

-- the mark of a column where the mask's cell is m
abbrev pub mask_mark : Bool → Cell → ℕ
mask_mark structural m = cond (mask_holds structural m) 1 0

-- a map without marks
pub record Unmarked (map : List ℕ) : Type 0 where
  pub tracked : Tracked 0 map
  pub none : (j : ℕ) → mark map j ≡ 0

-- column j, which was not marked, has the mark of an entry of value v, and the others are as they were
pub record EntryMarked (structural : Bool) (v j : ℕ) (map : List ℕ) (top' : ℕ) (map' : List ℕ) : Type 0 where
  pub tracked : Tracked top' map'
  pub here : mark map j ≡ 0 → mark map' j ≡ mask_mark structural (Some v)
  pub other : (k : ℕ) → (k ≡ j → ⊥) → mark map' k ≡ mark map k

-- the map has the marks of a mask's row
abbrev pub MaskMarked : Bool → List ℕ → List ℕ → List ℕ → Type 0
MaskMarked structural columns values map =
    (j : ℕ) → mark map j ≡ mask_mark structural (lookup columns values j)

-- there is a mask, with the row mc and mv
pub record UnderMask (w : WriteBack) (mc mv : List ℕ) : Type 0 where
  pub has : w.has_mask ≡ true
  pub row : Row max_cols mc mv

-- of the marked columns those inside the mask, whose row is m
pub record KeptInside (w : WriteBack) (m : ℕ → Cell) (map map' : List ℕ) : Type 0 where
  pub tracked : (top : ℕ) → Tracked top map → Tracked top map'
  pub marks : (j : ℕ) → mark map' j ≡ cond (inside w (m j)) (mark map j) 0
