-- What the arms of `apply_binary`, `apply_unary` and `apply_index_unary` work out on words is what the operators mean.
use Rattle.std.proofs.Common.{◌≡◌, ℕ, ◌+◌, ◌-◌, ◌%◌, ◌^◌, ◌<◌, pos, ◌-ℤ◌, sym}
use Rattle.twos_complement.specs.TwosComplement.{signed}
use Rattle.twos_complement.proofs.Words.{word_signed, word_pos, wrapping_sum, wrapping_difference}
use Rattle.operators.specs.declared.BinaryOp.TheVariants.{First, Second, Plus, Minus}
use Rattle.operators.specs.declared.UnaryOp.TheVariants.{Identity}
use Rattle.operators.specs.declared.IndexUnaryOp.TheVariants.{RowIndex, ColIndex, DiagIndex}
use Rattle.operators.specs.Operators.{binary_word, unary_word, index_unary_word}

-- IDENTITY, FIRST and SECOND return a word as it is
module _ {x : ℕ} (hx : x < 2 ^ 32) where
  pub identity_word_lem : x ≡ unary_word Identity x
  unfolding unary_word
  identity_word_lem = sym (word_signed x hx)

  pub first_word : (y : ℕ) → x ≡ binary_word First x y
  unfolding binary_word
  first_word y = sym (word_signed x hx)

  pub second_word : (y : ℕ) → x ≡ binary_word Second y x
  unfolding binary_word
  second_word y = sym (word_signed x hx)

-- PLUS and MINUS return the wrapping sum and the wrapping difference
module _ {x y : ℕ} (hx : x < 2 ^ 32) (hy : y < 2 ^ 32) where
  pub plus_word : (x + y) % 2 ^ 32 ≡ binary_word Plus x y
  unfolding binary_word
  plus_word = wrapping_sum (signed x) (signed y) (word_signed x hx) (word_signed y hy)

  pub minus_word : (x + (2 ^ 32 - y)) % 2 ^ 32 ≡ binary_word Minus x y
  unfolding binary_word
  minus_word = wrapping_difference (signed x) (signed y) (word_signed x hx) (word_signed y hy)

-- ROWINDEX, COLINDEX and DIAGINDEX return wrapping sums
module _ {i j s : ℕ} (hi : i < 2 ^ 32) (hj : j < 2 ^ 32) (hs : s < 2 ^ 32) where
  pub row_word : (i + s) % 2 ^ 32 ≡ index_unary_word RowIndex i j s
  unfolding index_unary_word
  row_word = wrapping_sum (pos i) (signed s) (word_pos i hi) (word_signed s hs)

  pub column_word : (j + s) % 2 ^ 32 ≡ index_unary_word ColIndex i j s
  unfolding index_unary_word
  column_word = wrapping_sum (pos j) (signed s) (word_pos j hj) (word_signed s hs)

  pub diagonal_word : ((j + (2 ^ 32 - i)) % 2 ^ 32 + s) % 2 ^ 32 ≡ index_unary_word DiagIndex i j s
  unfolding index_unary_word
  diagonal_word =
      wrapping_sum (pos j -ℤ pos i) (signed s)
      (sym (wrapping_difference (pos j) (pos i) (word_pos j hj) (word_pos i hi))) (word_signed s hs)
