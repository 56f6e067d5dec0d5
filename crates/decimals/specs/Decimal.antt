-- Whole numbers in decimals, as bytes (document 02, A1: "signed decimals"): the digits with the highest first, no zero
-- in front, and a minus sign before those of a negative number.
use Rattle.std.specs.Prelude.{ℕ, zero, suc, ◌+◌, ◌/◌, ◌%◌, ◌≡◌, refl, List, [], ◌∷◌, ◌++◌, cond, ltb, ℤ, pos, negsuc}
use Rattle.twos_complement.specs.TwosComplement.{signed}

-- the byte of a digit: "0" is 48
abbrev pub digit : ℕ → ℕ
digit d = 48 + d

-- "-"
abbrev pub minus : ℕ
minus = 45

-- the digits of n: those of n / 10, if it is not 0, and the last one. `turns` is only there to be counted down: one
-- for each digit
unfoldable pub digits : ℕ → ℕ → List ℕ
digits zero n = []
digits (suc turns) n = cond (ltb n 10) (digit n ∷ []) (digits turns (n / 10) ++ (digit (n % 10) ∷ []))

-- a word has at most ten digits: 4294967295
abbrev pub most_digits : ℕ
most_digits = 10

abbrev pub decimal : ℕ → List ℕ
decimal n = digits most_digits n

abbrev pub decimal_ℤ : ℤ → List ℕ
decimal_ℤ (pos n) = decimal n
decimal_ℤ (negsuc n) = minus ∷ decimal (suc n)

-- the number that a word holds in two's complement
abbrev pub signed_decimal : ℕ → List ℕ
signed_decimal word = decimal_ℤ (signed word)

-- "4294967295": the ten are enough
decimal_word : decimal 4294967295 ≡ 52 ∷ 50 ∷ 57 ∷ 52 ∷ 57 ∷ 54 ∷ 55 ∷ 50 ∷ 57 ∷ 53 ∷ []
unfolding digits
decimal_word = refl

-- "0", "9", "10"
decimal_zero : signed_decimal 0 ≡ 48 ∷ []
unfolding digits signed
decimal_zero = refl

decimal_nine : signed_decimal 9 ≡ 57 ∷ []
unfolding digits signed
decimal_nine = refl

decimal_ten : signed_decimal 10 ≡ 49 ∷ 48 ∷ []
unfolding digits signed
decimal_ten = refl

-- "1203": a zero within, and no digit out of its order
decimal_order : decimal 1203 ≡ 49 ∷ 50 ∷ 48 ∷ 51 ∷ []
unfolding digits
decimal_order = refl

-- "-1", stored as 4294967295
decimal_minus_one : signed_decimal 4294967295 ≡ 45 ∷ 49 ∷ []
unfolding digits signed
decimal_minus_one = refl

-- "2147483647" and "-2147483648"
decimal_largest : signed_decimal 2147483647 ≡ 50 ∷ 49 ∷ 52 ∷ 55 ∷ 52 ∷ 56 ∷ 51 ∷ 54 ∷ 52 ∷ 55 ∷ []
unfolding digits signed
decimal_largest = refl

decimal_smallest : signed_decimal 2147483648 ≡ 45 ∷ 50 ∷ 49 ∷ 52 ∷ 55 ∷ 52 ∷ 56 ∷ 51 ∷ 54 ∷ 52 ∷ 56 ∷ []
unfolding digits signed
decimal_smallest = refl
