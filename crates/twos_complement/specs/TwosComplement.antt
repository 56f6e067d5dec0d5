-- Words below 2 ^ 32 as signed whole numbers: document 01, "the values (two's complement)", "a value is -2,147,483,648
-- to 2,147,483,647". The whole numbers are ℤ: `pos n` is n, and `negsuc n` is -(n + 1).
use Rattle.std.specs.Prelude.{◌≡◌, ℕ, zero, suc, ◌-◌, ◌%◌, ◌^◌, cond, ℤ, pos, negsuc, ◌-ℤ◌, neg_ℤ, int_le, nat_lt, unsigned_abs, refl}

-- The number that a word holds: from 2 ^ 31 up it is 2 ^ 32 less than the word.
unfoldable pub signed : ℕ → ℤ
signed x = cond (nat_lt x (2 ^ 31)) (pos x) (pos x -ℤ pos (2 ^ 32))

-- The word of a number: "brought back modulo 2^32". Two numbers 2 ^ 32 apart have one word.
unfoldable pub word : ℤ → ℕ
word (pos n) = n % 2 ^ 32
word (negsuc n) = 2 ^ 32 - suc (n % 2 ^ 32)

-- "MIN, MAX | signed": the order is that of whole numbers
abbrev pub min_ℤ : ℤ → ℤ → ℤ
min_ℤ a b = cond (int_le a b) a b

abbrev pub max_ℤ : ℤ → ℤ → ℤ
max_ℤ a b = cond (int_le a b) b a

-- ABS
abbrev pub abs_ℤ : ℤ → ℤ
abs_ℤ a = pos (unsigned_abs a)

-- "LNOT (zero gives 1, else 0)"
unfoldable pub not_ℤ : ℤ → ℤ
not_ℤ (pos zero) = pos 1
not_ℤ (pos (suc n)) = pos 0
not_ℤ (negsuc n) = pos 0

-- "The value -5 is stored as 4294967291."
stored : word (neg_ℤ (pos 5)) ≡ 4294967291
unfolding word
stored = refl

held : signed 4294967291 ≡ neg_ℤ (pos 5)
unfolding signed
held = refl

-- the largest value and the smallest
largest : signed 2147483647 ≡ pos 2147483647
unfolding signed
largest = refl

smallest : signed 2147483648 ≡ neg_ℤ (pos 2147483648)
unfolding signed
smallest = refl

-- "The negative of the smallest value is that value itself, and so is its ABS."
pub negative_of_smallest : word (neg_ℤ (signed 2147483648)) ≡ 2147483648
unfolding signed word
negative_of_smallest = refl

pub absolute_of_smallest : word (abs_ℤ (signed 2147483648)) ≡ 2147483648
unfolding signed word
absolute_of_smallest = refl
