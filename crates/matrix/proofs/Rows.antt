-- How long the parts of a row are. Cited wherever a row is taken out of a matrix.
use Prim.Native.Nat.{ℕ, ◌+◌}
use native.Mathlib.Omega.{arith}
use mathlib.Core.Path.{◌≡◌}
use mathlib.Core.List.{List}
use lib.ListN.{length}
use Rattle.words.proofs.Parts.{length_part}
use Rattle.matrix.specs.Layout.{start, columns_from, values_from, row_columns, row_values}
use Rattle.matrix.specs.Facts.{Header, RowSpan}

module _ (s : List ℕ) (i : ℕ) (h : Header s) (r : RowSpan s i) where
  pub columns_length : length (row_columns s i) + start s i ≡ start s (i + 1)
  columns_length = let e = length_part (columns_from s i) (columns_from s (i + 1)) s (omega arith) in omega arith

  pub values_length : length (row_values s i) + start s i ≡ start s (i + 1)
  values_length = let e = length_part (values_from s i) (values_from s (i + 1)) s (omega arith) in omega arith

  -- a row has a value beside each column number
  pub row_even : length (row_values s i) ≡ length (row_columns s i)
  row_even = omega (arith, columns_length, values_length)
