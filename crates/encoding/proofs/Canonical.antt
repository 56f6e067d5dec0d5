-- The one writing of a grid, both ways: what OneWriting puts together, and what is cited of it elsewhere.
use Prim.Native.Nat.{ℕ}
use native.Mathlib.Omega.{arith}
use mathlib.Core.Path.{◌≡◌, refl, ap, ◌∙◌}
use mathlib.Core.List.{List, ◌++◌}
use mathlib.Core.Bool.{true}
use lib.ListN.{length, drop}
use Rattle.grid.specs.Grid.{Grid, Same}
use Rattle.grid.specs.Revision.{next_revision}
use Rattle.grid.specs.Entries.{column, value}
use Rattle.rows.proofs.Lookup.{lookup_gather}
use Rattle.matrix.specs.Layout.{revision, rows, size_of, size, cell_of, grid_of}
use Rattle.matrix.specs.HeaderWords.{with_revision, touched}
use Rattle.matrix.specs.Valid.{valid}
use Rattle.matrix.proofs.Facts.{matrix_facts, matrix_made}
use Rattle.grid.proofs.Same.{same_entries}
use Rattle.encoding.specs.Encode.{encode_revised, Within}
use Rattle.encoding.proofs.GridSections.{same_starts}
use Rattle.encoding.proofs.Encoded.{encode_rows, encode_cols, encode_row_columns, encode_row_values, encode_matrix}
use Rattle.encoding.proofs.Assembled.{assembled}
use Rattle.encoding.proofs.Decoded.{valid_assembled}
-- the size of a writing and its N; the rows and the N of valid words
pub use Rattle.encoding.proofs.Encoded.{encode_length, encode_revision, encode_entries}
pub use Rattle.encoding.proofs.Decoded.{valid_row, valid_row_columns, valid_row_values, valid_before, valid_entries}

-- the writing of a grid within the limits is a valid matrix, whatever words stand behind it
pub encode_valid : (v : ℕ) (g : Grid) (t : List ℕ) → Within g → valid (encode_revised v g ++ t) ≡ true
encode_valid v g t w = matrix_made (encode_revised v g ++ t) (encode_matrix v g t w)

-- "reading it gives the sheet back": shape and cells
pub encode_same : (v : ℕ) (g : Grid) (t : List ℕ) → Same (grid_of (encode_revised v g ++ t)) g
unfolding cell_of
encode_same v g t = record {
  rows = encode_rows v g t;
  cols = encode_cols v g t;
  cell = λ i j l k.
      rw (encode_row_columns v g t i l, encode_row_values v g t i l) (lookup_gather g.cols (g.cell i) j k);
}

-- grids with the same cells have the same writing
pub encode_ext : (v : ℕ) (g h : Grid) → Same g h → encode_revised v g ≡ encode_revised v h
unfolding encode_revised
encode_ext v g h s =
    rw (same_starts g h s, same_entries g h s column, same_entries g h s value, s.rows, s.cols)

-- another revision in a writing: it is the writing with that one
pub encode_revised_lem : (v u : ℕ) (g : Grid) (t : List ℕ)
    → with_revision u (encode_revised v g ++ t) ≡ encode_revised u g ++ t
unfolding encode_revised
encode_revised_lem v u g t = refl

-- the next revision in a writing
pub encode_touched : (v : ℕ) (g : Grid) (t : List ℕ)
    → touched (encode_revised v g ++ t) ≡ encode_revised (next_revision v) g ++ t
encode_touched v g t = rw (encode_revision v g t) (encode_revised_lem v (next_revision v) g t)

-- the grid of valid words is within the limits
pub valid_within : (s : List ℕ) → valid s ≡ true → Within (grid_of s)
valid_within s v =
    let h = (matrix_facts s v).header in
    record { row_range = h.row_range; col_range = h.col_range; few = omega (arith, valid_entries s v) }

-- "every valid sheet has one writing": valid words are the writing of their grid with their revision, and then
-- the spare words
pub valid_encoded : (s : List ℕ) → valid s ≡ true → s ≡ encode_revised (revision s) (grid_of s) ++ drop (size s) s
valid_encoded s v = rw (valid_entries s v) at (assembled (grid_of s) s (valid_assembled s v))

-- with the next revision they are the writing with that one
pub valid_touched : (s : List ℕ) → valid s ≡ true
    → touched s ≡ encode_revised (next_revision (revision s)) (grid_of s) ++ drop (size s) s
valid_touched s v =
    ap touched (valid_encoded s v) ∙ encode_touched (revision s) (grid_of s) (drop (size s) s)

-- the length of that writing is the size of the matrix
pub valid_size : (v : ℕ) (s : List ℕ) → valid s ≡ true → length (encode_revised v (grid_of s)) ≡ size s
valid_size v s h = encode_length v (grid_of s) ∙ ap (size_of (rows s)) (valid_entries s h)
