-- `word` takes a product of numbers to that of words modulo 2 ^ 32: what `multiply` cites.
use Rattle.std.proofs.Common.{◌≡◌, ℕ, suc, ◌+◌, ◌-◌, ◌*◌, ◌/◌, ◌%◌, ◌^◌, ◌<◌, ◌≤◌, ℤ, pos, negsuc, ◌*ℤ◌, sym, ap, ◌∙◌, mul_assoc, mul_comm, div-add-mod', mul-add, arith}
use native.Mathlib.Nat.{mul-add-mod_self_right}
use lib.IntN.{*ℤ_comm, *ℤ-negsuc}
use Rattle.twos_complement.specs.TwosComplement.{signed, word}
use Rattle.twos_complement.proofs.Words.{word_lt, word_neg, word_signed}

-- a factor may be taken modulo m
mul_mod_right : (a b m : ℕ) → (a * (b % m)) % m ≡ (a * b) % m
mul_mod_right a b m = sym (mul-add-mod_self_right (a * (b / m)) m (a * (b % m))) ∙ ap (λ (n : ℕ). n % m) whole
  where
    whole : a * (b / m) * m + a * (b % m) ≡ a * b
    whole = simp (mul_assoc, ← mul-add, div-add-mod')

-- and so may both
mul_mod : (a b m : ℕ) → (a % m * (b % m)) % m ≡ (a * b) % m
mul_mod a b m = mul_mod_right (a % m) b m ∙ simp (mul_comm (a % m) b, mul_mod_right b a m, mul_comm b a)

-- a factor's complement gives the complement of the product
complement : (x y : ℕ) → y ≤ 2 ^ 32 → (x * ((2 ^ 32 - y) % 2 ^ 32)) % 2 ^ 32 ≡ (2 ^ 32 - (x * y) % 2 ^ 32) % 2 ^ 32
complement x y h = mul_mod_right x (2 ^ 32 - y) (2 ^ 32) ∙ omega (arith, whole)
  where
    whole : x * (2 ^ 32 - y) + x * y ≡ x * 2 ^ 32
    whole = sym (mul-add x (2 ^ 32 - y) y) ∙ ap (λ (n : ℕ). x * n) (omega arith)

-- A product's word is the product of the words. It holds of two numbers that are not negative, with the factors
-- swapped, and with the sign of a factor turned, and so of all.
Exact : ℤ → ℤ → Type 0
Exact a b = word (a *ℤ b) ≡ (word a * word b) % 2 ^ 32

exact_pos : (a b : ℕ) → Exact (pos a) (pos b)
unfolding Exact word
exact_pos a b = sym (mul_mod a b (2 ^ 32))

exact_swap : (a b : ℤ) → Exact a b → Exact b a
unfolding Exact
exact_swap a b e = ap word (*ℤ_comm b a) ∙ e ∙ ap (λ (n : ℕ). n % 2 ^ 32) (mul_comm (word a) (word b))

exact_negsuc : (a : ℤ) (b : ℕ) → Exact a (pos (suc b)) → Exact a (negsuc b)
unfolding Exact
exact_negsuc a b e =
    ap word (*ℤ-negsuc a b)
    ∙ word_neg (a *ℤ pos (suc b))
    ∙ ap (λ (n : ℕ). (2 ^ 32 - n) % 2 ^ 32) e
    ∙ sym (complement (word a) (word (pos (suc b))) (omega (arith, word_lt (pos (suc b)))))
    ∙ ap (λ (n : ℕ). (word a * n) % 2 ^ 32) (sym (word_neg (pos (suc b))))

-- of a negative number and one that is not
exact_mixed : (a b : ℕ) → Exact (negsuc a) (pos b)
exact_mixed a b = exact_swap (pos b) (negsuc a) (exact_negsuc (pos b) a (exact_pos b (suc a)))

-- the law for numbers of any sign
pub word_mul : (a b : ℤ) → word (a *ℤ b) ≡ (word a * word b) % 2 ^ 32
unfolding Exact
word_mul (pos a) (pos b) = exact_pos a b
word_mul (pos a) (negsuc b) = exact_negsuc (pos a) b (exact_pos a (suc b))
word_mul (negsuc a) (pos b) = exact_mixed a b
word_mul (negsuc a) (negsuc b) = exact_negsuc (negsuc a) b (exact_mixed a (suc b))

-- the product of two words, as `multiply` works it out: it fits 64 bits, and is right modulo 2 ^ 32
module _ {x y : ℕ} (hx : x < 2 ^ 32) (hy : y < 2 ^ 32) where
  pub product_is : (x * y) % 2 ^ 32 ≡ word (signed x *ℤ signed y)
  product_is = sym (word_mul (signed x) (signed y) ∙ simp (word_signed x hx, word_signed y hy))
