-- What the operators mean: document 01, "Operators". First on whole numbers, then on the words that hold them.
use Rattle.std.specs.Prelude.{◌≡◌, ℕ, ℤ, pos, ◌+ℤ◌, ◌-ℤ◌, ◌*ℤ◌, neg_ℤ, refl}
use Rattle.twos_complement.specs.TwosComplement.{signed, word, min_ℤ, max_ℤ, abs_ℤ, not_ℤ}
use Rattle.operators.specs.declared.BinaryOp.{BinaryOp}
use Rattle.operators.specs.declared.BinaryOp.TheVariants.{First, Second, Oneb, Plus, Minus, Times, Min, Max}
use Rattle.operators.specs.declared.Monoid.{Monoid}
use Rattle.operators.specs.declared.Monoid.TheVariants as monoid
use Rattle.operators.specs.declared.UnaryOp.{UnaryOp}
use Rattle.operators.specs.declared.UnaryOp.TheVariants.{Identity, Ainv, Abs, Lnot, One}
use Rattle.operators.specs.declared.IndexUnaryOp.{IndexUnaryOp}
use Rattle.operators.specs.declared.IndexUnaryOp.TheVariants.{RowIndex, ColIndex, DiagIndex}
use Rattle.operators.specs.declared.ApplyOp.{ApplyOp}
use Rattle.operators.specs.declared.ApplyOp.TheVariants.{Unary, IndexUnary}
use Rattle.operators.specs.declared.ApplyOp.TheVariants.{BinaryScalarFirst, BinaryScalarSecond}

-- "FIRST, SECOND, ONEB | x, y, 1", "PLUS, MINUS, TIMES | sum, difference, product", "MIN, MAX | signed"
abbrev pub binary : BinaryOp → ℤ → ℤ → ℤ
binary First x y = x
binary Second x y = y
binary Oneb x y = pos 1
binary Plus x y = x +ℤ y
binary Minus x y = x -ℤ y
binary Times x y = x *ℤ y
binary Min x y = min_ℤ x y
binary Max x y = max_ℤ x y

-- "Unary: 0 IDENTITY, 1 AINV, 2 ABS, 3 LNOT (zero gives 1, else 0), 4 ONE"
abbrev pub unary : UnaryOp → ℤ → ℤ
unary Identity x = x
unary Ainv x = neg_ℤ x
unary Abs x = abs_ℤ x
unary Lnot x = not_ℤ x
unary One x = pos 1

-- "Index-unary, with scalar s, wrapping: 0 ROWINDEX i+s, 1 COLINDEX j+s, 2 DIAGINDEX j-i+s", at row i and column j
abbrev pub index_unary : IndexUnaryOp → ℤ → ℤ → ℤ → ℤ
index_unary RowIndex i j s = i +ℤ s
index_unary ColIndex i j s = j +ℤ s
index_unary DiagIndex i j s = j -ℤ i +ℤ s

-- "Monoids are 3, 5, 6, 7": the binary operator of a monoid
abbrev pub monoid_op : Monoid → BinaryOp
monoid_op monoid.Plus = Plus
monoid_op monoid.Times = Times
monoid_op monoid.Min = Min
monoid_op monoid.Max = Max

-- On words: "A sum or difference past the ends of the range wraps modulo 2^32", and a product is "the exact product
-- brought back modulo 2^32 into the signed range". The other results are within the range, but for the negative and the
-- ABS of the smallest value, which wrap too.
unfoldable pub binary_word : BinaryOp → ℕ → ℕ → ℕ
binary_word op x y = word (binary op (signed x) (signed y))

unfoldable pub unary_word : UnaryOp → ℕ → ℕ
unary_word op x = word (unary op (signed x))

-- a row and a column are numbers from 0 up, and the scalar is signed
unfoldable pub index_unary_word : IndexUnaryOp → ℕ → ℕ → ℕ → ℕ
index_unary_word op i j s = word (index_unary op (pos i) (pos j) (signed s))

-- "Apply: unary; binary with the scalar first; binary with the scalar second; index-unary": what an entry x at row i
-- and column j becomes
unfoldable pub entry_word : ApplyOp → ℕ → ℕ → ℕ → ℕ
entry_word (Unary op) x i j = unary_word op x
entry_word (BinaryScalarFirst op s) x i j = binary_word op s x
entry_word (BinaryScalarSecond op s) x i j = binary_word op x s
entry_word (IndexUnary op s) x i j = index_unary_word op i j s

-- the values of P4: "PLUS of 2147483647 and 1" is -2147483648
plus_wraps : signed (binary_word Plus 2147483647 1) ≡ neg_ℤ (pos 2147483648)
unfolding binary_word signed word
plus_wraps = refl

-- of P5: "TIMES of 46341 and 46341" is -2147479015
times_wraps : signed (binary_word Times 46341 46341) ≡ neg_ℤ (pos 2147479015)
unfolding binary_word signed word
times_wraps = refl

-- and of P6: "TIMES of 65536 and 65536" is 0
times_zero : signed (binary_word Times 65536 65536) ≡ pos 0
unfolding binary_word signed word
times_zero = refl

-- MINUS takes y from x: 10 - 15 is -5, which "is stored as 4294967291"
minus_order : binary_word Minus 10 15 ≡ 4294967291
unfolding binary_word signed word
minus_order = refl

-- MIN is signed: of -5 and 10 it is -5
min_signed : binary_word Min 4294967291 10 ≡ 4294967291
unfolding binary_word signed word
min_signed = refl

-- "The negative of the smallest value is that value itself, and so is its ABS."
ainv_smallest : unary_word Ainv 2147483648 ≡ 2147483648
unfolding unary_word signed word
ainv_smallest = refl

abs_smallest : unary_word Abs 2147483648 ≡ 2147483648
unfolding unary_word signed word
abs_smallest = refl

abs_minus_five : unary_word Abs 4294967291 ≡ 5
unfolding unary_word signed word
abs_minus_five = refl

-- "LNOT (zero gives 1, else 0)"
lnot_zero : unary_word Lnot 0 ≡ 1
unfolding unary_word signed word not_ℤ
lnot_zero = refl

lnot_minus_five : unary_word Lnot 4294967291 ≡ 0
unfolding unary_word signed word not_ℤ
lnot_minus_five = refl

-- DIAGINDEX at row 2, column 0 with scalar 0 is -2; with the smallest scalar it wraps to 2147483646
diagonal_below : signed (index_unary_word DiagIndex 2 0 0) ≡ neg_ℤ (pos 2)
unfolding index_unary_word signed word
diagonal_below = refl

diagonal_wraps : signed (index_unary_word DiagIndex 2 0 2147483648) ≡ pos 2147483646
unfolding index_unary_word signed word
diagonal_wraps = refl

-- the scalar is added to j-i: 0 - 2 + 5 is 3
diagonal_scalar : index_unary_word DiagIndex 2 0 5 ≡ 3
unfolding index_unary_word signed word
diagonal_scalar = refl
