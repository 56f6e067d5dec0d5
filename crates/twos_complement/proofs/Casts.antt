-- Signed numbers as the machine has them, `to_z w32` of bits and `of_z w32` of a number, against `signed` and `word`:
-- what `to_signed` and `from_signed` cite, and what a local that holds `to_signed(x)` is.
use Rattle.std.proofs.Common.{◌≡◌, ℕ, ◌^◌, ◌<◌, ℤ, pos, negsuc, arith, w32, SFits, to_z, of_z, le-ltb}
use mir.ValLaws.{to_z-of_z, to_z_pos}
use Rattle.twos_complement.specs.TwosComplement.{signed, word}
use Rattle.twos_complement.proofs.Words.{signed_cases}

-- the number that a word holds fits 32 bits
pub signed_fits : {x : ℕ} → x < 2 ^ 32 → SFits w32 (signed x)
signed_fits {x} h =
    signed_cases (SFits w32) x h (λ l. record { sfits = l }) (λ g. record { sfits = omega arith })

-- the machine reads a word as the number that it holds
pub read_word : (x : ℕ) → x < 2 ^ 32 → to_z w32 x ≡ signed x
read_word x h =
    signed_cases (λ z. to_z w32 x ≡ z) x h (λ l. to_z_pos w32 x l) (λ g. rw (le-ltb x (2 ^ 31) g))

-- and reads the number of a word back from a local
pub read_back : {x : ℕ} {z : ℤ} → x < 2 ^ 32 → z ≡ signed x → to_z w32 (of_z w32 z) ≡ signed x
read_back {x} h e = rw e (to_z-of_z w32 (signed x) (signed_fits h))

-- the word of a number is what the machine keeps of it
pub word_bits : (z : ℤ) → SFits w32 z → of_z w32 z ≡ word z
unfolding word
word_bits (pos n) f = let l : n < 2 ^ 31 = f.sfits in omega arith
word_bits (negsuc n) f = let l : n < 2 ^ 31 = f.sfits in omega arith
