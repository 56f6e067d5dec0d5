-- A transposed grid has as many entries and is within the limits, so its writing fits where the largest matrix does.
use Rattle.std.proofs.Common.{None, Some}
use Prim.Native.Nat.{ℕ, zero, suc, ◌+◌, ◌≤◌}
use native.Mathlib.Omega.{arith}
use mathlib.Core.Path.{◌≡◌, refl, sym, ◌∙◌}
use mathlib.Core.List.{List}
use lib.ListN.{length, length-append}
use Rattle.limits.specs.Limits.{max_rows, max_cols}
use Rattle.grid.specs.Cell.{Cell}
use Rattle.grid.specs.Grid.{Grid}
use Rattle.grid.specs.Entries.{column, one, gather, flatten, entry_count}
use Rattle.matrix.specs.Layout.{max_matrix_words, entries, grid_of}
use Rattle.matrix.specs.Facts.{Matrix}
use Rattle.matrix.proofs.Facts.{matrix_made}
use Rattle.encoding.specs.Encode.{grid_size, Within}
use Rattle.encoding.proofs.Canonical.{valid_entries, valid_within}
use Rattle.operations.specs.GridOperations.{transposed}

-- at which column a cell stands does not change how many entries it has
pub one_anywhere : (i j : ℕ) (c : Cell) → length (one column i c) ≡ length (one column j c)
unfolding one
one_anywhere i j None = refl
one_anywhere i j (Some v) = refl

-- rows without columns have no entries
flatten_none : (cell : ℕ → ℕ → Cell) (r : ℕ) → length (flatten column 0 cell r) ≡ 0
unfolding flatten gather
flatten_none cell zero = refl
flatten_none cell (suc r) = rw length-append (omega (arith, flatten_none cell r))

-- one column more: its entries are those of one row more of the transpose
flatten_column : (n : ℕ) (cell : ℕ → ℕ → Cell) (r : ℕ)
    → length (flatten column (suc n) cell r)
    ≡ length (flatten column n cell r) + length (gather column r (λ i. cell i n))
unfolding flatten gather
flatten_column n cell zero = refl
flatten_column n cell (suc r) =
    simp length-append (omega (arith, flatten_column n cell r, one_anywhere r n (cell r n)))

-- by rows and by columns there are as many
flatten_transposed : (n : ℕ) (cell : ℕ → ℕ → Cell) (r : ℕ)
    → length (flatten column n cell r) ≡ length (flatten column r (λ i j. cell j i) n)
unfolding flatten
flatten_transposed zero cell r = flatten_none cell r
flatten_transposed (suc n) cell r =
    flatten_column n cell r ∙ rw length-append (omega (arith, flatten_transposed n cell r))

-- the number of entries
transposed_count : (g : Grid) → entry_count (transposed g) ≡ entry_count g
transposed_count g = flatten_transposed g.rows (λ i j. g.cell j i) g.cols

-- N of a matrix
pub transposed_entries : {a : List ℕ} → Matrix a → entries a ≡ entry_count (transposed (grid_of a))
transposed_entries {a} m = sym (transposed_count (grid_of a) ∙ valid_entries a (matrix_made a m))

-- rows and columns have one limit
limits_agree : max_rows ≡ max_cols
limits_agree = refl

-- so a transposed grid is within the limits
pub transposed_within : {g : Grid} → Within g → Within (transposed g)
transposed_within {g} w = record {
  row_range = rw limits_agree w.col_range;
  col_range = rw (← limits_agree) w.row_range;
  few = omega (arith, transposed_count g, w.few);
}

-- and its writing is no longer than the largest matrix
pub transposed_fits : {a : List ℕ} → Matrix a → grid_size (transposed (grid_of a)) ≤ max_matrix_words
transposed_fits {a} m = let w = transposed_within (valid_within a (matrix_made a m)) in omega arith
