-- The conditions of select: document 02, A4. "select with equal, not equal, less, at most, greater, at least (value against
-- s), lower triangle (j at most i+s) and upper triangle (j at least i+s), the sums exact and not wrapped".
use Rattle.std.specs.Prelude.{◌≡◌, ℕ, Bool, true, false, not, pos, ◌+ℤ◌, ◌==◌, int_le, int_lt, refl}
use Rattle.twos_complement.specs.TwosComplement.{signed}
use Rattle.select_ops.specs.declared.SelectOp.{SelectOp}
use Rattle.select_ops.specs.declared.SelectOp.TheVariants.{
  ValueEq,
  ValueNe,
  ValueLt,
  ValueLe,
  ValueGt,
  ValueGe,
  Tril,
  Triu,
}

-- whether an entry x at row i and column j is kept. The order is that of whole numbers; a value has one word.
unfoldable pub selects : SelectOp → ℕ → ℕ → ℕ → Bool
selects (ValueEq s) x i j = x == s
selects (ValueNe s) x i j = not (x == s)
selects (ValueLt s) x i j = int_lt (signed x) (signed s)
selects (ValueLe s) x i j = int_le (signed x) (signed s)
selects (ValueGt s) x i j = int_lt (signed s) (signed x)
selects (ValueGe s) x i j = int_le (signed s) (signed x)
selects (Tril s) x i j = int_le (pos j) (pos i +ℤ signed s)
selects (Triu s) x i j = int_le (pos i +ℤ signed s) (pos j)

-- strict and weak: 5 against 5
equal_five : selects (ValueEq 5) 5 0 0 ≡ true
unfolding selects
equal_five = refl

not_equal_five : selects (ValueNe 5) 5 0 0 ≡ false
unfolding selects
not_equal_five = refl

less_five : selects (ValueLt 5) 5 0 0 ≡ false
unfolding selects signed
less_five = refl

at_most_five : selects (ValueLe 5) 5 0 0 ≡ true
unfolding selects signed
at_most_five = refl

greater_five : selects (ValueGt 5) 5 0 0 ≡ false
unfolding selects signed
greater_five = refl

at_least_five : selects (ValueGe 5) 5 0 0 ≡ true
unfolding selects signed
at_least_five = refl

-- signed, and the value first: -5 is less than 3 and not greater
negative_less : selects (ValueLt 3) 4294967291 0 0 ≡ true
unfolding selects signed
negative_less = refl

negative_at_most : selects (ValueLe 3) 4294967291 0 0 ≡ true
unfolding selects signed
negative_at_most = refl

negative_greater : selects (ValueGt 3) 4294967291 0 0 ≡ false
unfolding selects signed
negative_greater = refl

negative_at_least : selects (ValueGe 3) 4294967291 0 0 ≡ false
unfolding selects signed
negative_at_least = refl

-- the triangles have the diagonal that s names: row 2, column 5 and s = 3; one column on either side
lower_diagonal : selects (Tril 3) 0 2 5 ≡ true
unfolding selects signed
lower_diagonal = refl

lower_right : selects (Tril 3) 0 2 6 ≡ false
unfolding selects signed
lower_right = refl

upper_diagonal : selects (Triu 3) 0 2 5 ≡ true
unfolding selects signed
upper_diagonal = refl

upper_left : selects (Triu 3) 0 2 4 ≡ false
unfolding selects signed
upper_left = refl

-- a sum below 0 is below every column: row 1 and s = -2, column 0
lower_negative : selects (Tril 4294967294) 0 1 0 ≡ false
unfolding selects signed
lower_negative = refl

upper_negative : selects (Triu 4294967294) 0 1 0 ≡ true
unfolding selects signed
upper_negative = refl

-- at the ends of s no sum wraps: the lower triangle of the largest s is everything and of the smallest nothing, and the
-- upper the other way round
lower_largest : selects (Tril 2147483647) 0 999 0 ≡ true
unfolding selects signed
lower_largest = refl

lower_smallest : selects (Tril 2147483648) 0 999 0 ≡ false
unfolding selects signed
lower_smallest = refl

upper_largest : selects (Triu 2147483647) 0 999 0 ≡ false
unfolding selects signed
upper_largest = refl

upper_smallest : selects (Triu 2147483648) 0 999 0 ≡ true
unfolding selects signed
upper_smallest = refl
