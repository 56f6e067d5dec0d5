-- How many entries the grid of a matrix has when one cell is changed, and the size of its writing.
use Rattle.std.proofs.Common.{None, Some}
use Prim.Native.Nat.{ℕ, ◌+◌, ◌<◌}
use native.Mathlib.Omega.{arith}
use native.Mathlib.Decide.{ℕ_discrete}
use mathlib.Core.Path.{◌≡◌, refl, sym, ap, ◌∙◌}
use mathlib.Core.List.{List, ◌++◌, append-nil}
use lib.ListN.{length, drop}
use lib.Seq.{drop-length}
use Rattle.grid.specs.Cell.{Cell}
use Rattle.grid.specs.Grid.{Grid}
use Rattle.grid.specs.Entries.{column, entry_count}
use Rattle.grid.specs.Position.{AbsentAt, PresentAt}
use Rattle.grid.specs.Update.{with_cell}
use Rattle.matrix.specs.Layout.{entries, grid_of}
use Rattle.encoding.specs.Encode.{encode_revised, grid_size, written_revised}
use Rattle.encoding.proofs.Canonical.{valid_entries, encode_ext}
use Rattle.edits.specs.Changes.{InMatrix}
use Rattle.edits.proofs.Around.{cell_count, around, around_length, changed_here, changed_other}
use Rattle.edits.proofs.Place.{in_valid}

-- a cell more or less is an entry more or less
with_count : (g : Grid) (i j : ℕ) (x : Cell) → i < g.rows → j < g.cols
    → entry_count (with_cell g i j x) + cell_count (g.cell i j) ≡ entry_count g + cell_count x
with_count g i j x l m =
    let w = around column g.cols g.cell i j g.rows l m in
    omega (
      arith,
      around_length column w g.cell (λ r c f. refl),
      around_length column w (with_cell g i j x).cell (changed_other g i j x),
      ap cell_count (changed_here g i j x),
    )

-- the same for the grid of a matrix, by its entry
module _ {x : List ℕ} {i j : ℕ} (m : InMatrix x i j) (p : ℕ) where
  change : (c : Cell)
      → entry_count (with_cell (grid_of x) i j c) + cell_count ((grid_of x).cell i j) ≡ entries x + cell_count c
  change c =
      omega (arith, with_count (grid_of x) i j c m.row m.col, valid_entries x (in_valid m))

  pub replaced_count : PresentAt (grid_of x) i j p → (v : ℕ)
      → entry_count (with_cell (grid_of x) i j (Some v)) ≡ entries x
  replaced_count e v = omega (arith, change (Some v), ap cell_count e.cell)

  pub added_count : AbsentAt (grid_of x) i j p → (v : ℕ)
      → entry_count (with_cell (grid_of x) i j (Some v)) ≡ entries x + 1
  added_count e v = omega (arith, change (Some v), ap cell_count e.cell)

  pub taken_count : PresentAt (grid_of x) i j p
      → entry_count (with_cell (grid_of x) i j None) + 1 ≡ entries x
  taken_count e = omega (arith, change None, ap cell_count e.cell)

  pub cleared_count : AbsentAt (grid_of x) i j p
      → entry_count (with_cell (grid_of x) i j None) ≡ entries x
  cleared_count e = omega (arith, change None, ap cell_count e.cell)

-- a cell that is cleared and was empty: the writing is the same
pub cleared_same : (v : ℕ) (g : Grid) (i j p : ℕ) → AbsentAt g i j p
    → encode_revised v (with_cell g i j None) ≡ encode_revised v g
cleared_same v g i j p e =
    encode_ext v (with_cell g i j None) g (record { rows = refl; cols = refl; cell = λ r c l m. cell_same r c })
  where
    cell_same : (r c : ℕ) → (with_cell g i j None).cell r c ≡ g.cell r c
    cell_same r c = go (ℕ_discrete r i) (ℕ_discrete c j)
      where
        go : Dec (r ≡ i) → Dec (c ≡ j) → (with_cell g i j None).cell r c ≡ g.cell r c
        go (yes d) (yes f) =
            rw (d, f) (changed_here g i j None ∙ sym e.cell)
        go (yes d) (no f) = changed_other g i j None r c (λ a b. f b)
        go (no d) f = changed_other g i j None r c (λ a b. d a)

-- a writing that fills its words leaves none of the old ones
pub whole : (v : ℕ) (g : Grid) (y : List ℕ) → grid_size g ≡ length y → written_revised v g y ≡ encode_revised v g
whole v g y e =
    ap (λ (n : ℕ). encode_revised v g ++ drop n y) e ∙ ap (λ (t : List ℕ). encode_revised v g ++ t) (drop-length y)
    ∙ append-nil (encode_revised v g)
