-- What the theorem assumes holds of the three matrices of specs/Examples: the claim is not empty.
use Prim.Native.Nat.{ℕ, zero, suc, ◌^◌, ◌<◌}
use native.Mathlib.Omega.{arith}
use mathlib.Core.Path.{◌≡◌, refl}
use mathlib.Core.Bool.{Bool, true}
use mathlib.Core.List.{List, [], ◌∷◌}
use lib.Dec.{ltb}
use borrow.Author.Tests.{ltb-true}
use Rattle.words.specs.Words.{at}
use Rattle.conditions.specs.Tests.{◌and◌, all}
use Rattle.conditions.proofs.Tests.{and_left, and_right}
use Rattle.grid.specs.Entries.{one, gather, flatten}
use Rattle.rows.specs.Row.{lookup}
use Rattle.matrix.specs.Layout.{cell_of}
use Rattle.matrix.specs.Valid.{in_range, header_valid, starts_valid, rows_valid, valid}
use Rattle.merging.specs.Merging.{◌∈◌, here, there}
use Rattle.merging.specs.AnyOrder.{Words, Input, Mergeable}
use Rattle.merging.specs.Examples.{board, first, second, third}

abbrev small_words : List ℕ → Bool
small_words [] = true
small_words (x ∷ l) = ltb x (2 ^ 32) and small_words l

words_small : (l : List ℕ) → small_words l ≡ true → Words l
words_small l h = record { small = λ k. go l k h }
  where
    go : (l : List ℕ) (k : ℕ) → small_words l ≡ true → at l k < 2 ^ 32
    go [] k h = omega arith
    go (x ∷ l) zero h = ltb-true x (2 ^ 32) (and_left _ _ h)
    go (x ∷ l) (suc k) h = go l k (and_right _ _ h)

three : (a : List ℕ) → a ∈ (first ∷ second ∷ third ∷ []) → Input board a
unfolding valid header_valid starts_valid rows_valid in_range ◌and◌ all
three a here = record { valid_matrix = refl; same_rows = refl; same_cols = refl; words = words_small _ refl }
three a (there here) = record { valid_matrix = refl; same_rows = refl; same_cols = refl; words = words_small _ refl }
three a (there (there here)) =
    record { valid_matrix = refl; same_rows = refl; same_cols = refl; words = words_small _ refl }
three a (there (there (there m))) = elim m [ ]

pub three_inputs : Mergeable board (first ∷ second ∷ third ∷ [])
unfolding valid header_valid starts_valid rows_valid in_range ◌and◌ all flatten gather one cell_of lookup
three_inputs = record {
  valid_c = refl;
  words = words_small _ refl;
  each = three;
  entries = omega arith;
  buffer = omega arith;
}
