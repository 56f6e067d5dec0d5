-- The laws of `signed` and `word`: `word` undoes `signed`, and takes a sum and a negation of numbers to those of words
-- modulo 2 ^ 32. The other files here and the crate `operators` cite them.
use Rattle.std.proofs.Common.{◌≡◌, ℕ, zero, suc, ◌+◌, ◌-◌, ◌%◌, ◌^◌, ◌<◌, ◌≤◌, ◌⊎◌, ℤ, pos, negsuc, ◌+ℤ◌, ◌-ℤ◌, neg_ℤ, refl, inl, inr, ⊎_elim, arith, le-ltb, lt-ltb}
use native.Mathlib.Decide.{dec_lt}
use lib.IntN.{sub_ℕ}
use Rattle.twos_complement.specs.TwosComplement.{signed, word}

-- two numbers are in order or not
lt_or_le : (a b : ℕ) → (a < b) ⊎ (b ≤ a)
lt_or_le a b = by (dec_lt a b)
  where
    by : Dec (a < b) → (a < b) ⊎ (b ≤ a)
    by (yes l) = inl l
    by (no g) = inr (omega arith)

-- a fact of the number that a word holds, by the word's half: what opens `signed` for every lemma below
pub signed_cases : (P : ℤ → Type 0) (x : ℕ) → x < 2 ^ 32
    → (x < 2 ^ 31 → P (pos x)) → (2 ^ 31 ≤ x → P (negsuc (2 ^ 32 - suc x))) → P (signed x)
unfolding signed
signed_cases P x h low high =
    ⊎_elim
    (λ l. rw (lt-ltb x (2 ^ 31) l) (low l))
    (λ g. rw (le-ltb x (2 ^ 31) g, lt-ltb x (2 ^ 32) h) (high g))
    (lt_or_le x (2 ^ 31))

-- a word is below 2 ^ 32
pub word_lt : (z : ℤ) → word z < 2 ^ 32
unfolding word
word_lt (pos n) = omega arith
word_lt (negsuc n) = omega arith

-- a row, a column or any other number below 2 ^ 32 is its own word
pub word_pos : (n : ℕ) → n < 2 ^ 32 → word (pos n) ≡ n
unfolding word
word_pos n h = omega arith

-- the word of the number that a word holds is that word
pub word_signed : (x : ℕ) → x < 2 ^ 32 → word (signed x) ≡ x
unfolding word
word_signed x h = signed_cases (λ z. word z ≡ x) x h (λ l. omega arith) (λ g. omega arith)

-- a negative number's word is the complement
pub word_neg : (z : ℤ) → word (neg_ℤ z) ≡ (2 ^ 32 - word z) % 2 ^ 32
unfolding word
word_neg (pos zero) = refl
word_neg (pos (suc n)) = omega arith
word_neg (negsuc n) = omega arith

-- a difference of natural numbers, which the sum of numbers of two signs comes to
word_sub : (a b : ℕ) → word (sub_ℕ a b) ≡ (a + (2 ^ 32 - b % 2 ^ 32)) % 2 ^ 32
unfolding word
word_sub a b =
    ⊎_elim (λ l. rw (lt-ltb a b l) (omega arith)) (λ g. rw (le-ltb a b g) (omega arith)) (lt_or_le a b)

-- a sum's word is the sum of the words
pub word_add : (a b : ℤ) → word (a +ℤ b) ≡ (word a + word b) % 2 ^ 32
unfolding word
word_add (pos a) (pos b) = omega arith
word_add (pos a) (negsuc b) = omega (arith, word_sub a (suc b))
word_add (negsuc a) (pos b) = omega (arith, word_sub b (suc a))
word_add (negsuc a) (negsuc b) = omega arith

-- What the wrapping sum and the wrapping difference give on the words of two numbers: the crate `operators` cites them.
pub wrapping_sum : (a b : ℤ) {x y : ℕ} → word a ≡ x → word b ≡ y → (x + y) % 2 ^ 32 ≡ word (a +ℤ b)
wrapping_sum a b ea eb = omega (arith, word_add a b)

pub wrapping_difference : (a b : ℤ) {x y : ℕ} → word a ≡ x → word b ≡ y → (x + (2 ^ 32 - y)) % 2 ^ 32 ≡ word (a -ℤ b)
wrapping_difference a b ea eb = omega (arith, word_add a (neg_ℤ b), word_neg b, word_lt a, word_lt b)
