-- Words are their bytes read back, and bytes are those of their words. Cited by whoever reads what was written.
use Prim.Native.Nat.{ℕ, zero, suc, ◌+◌, ◌*◌, ◌/◌, ◌%◌, ◌^◌, ◌<◌}
use native.Mathlib.Omega.{arith}
use mathlib.Core.Path.{◌≡◌, refl}
use mathlib.Core.List.{List, [], ◌∷◌}
use lib.ListN.{length}
use Rattle.words.specs.Words.{at}
use Rattle.word_bytes.specs.Bytes.{bytes_of, word_from, words_of, AreBytes}

-- four bytes a word
pub length_bytes : (ws : List ℕ) → length (bytes_of ws) ≡ length ws * 4
unfolding bytes_of
length_bytes [] = refl
length_bytes (w ∷ ws) = omega (arith, length_bytes ws)

pub length_words : (s : List ℕ) → length (words_of s) ≡ length s / 4
unfolding words_of
length_words [] = refl
length_words (a ∷ []) = refl
length_words (a ∷ b ∷ []) = refl
length_words (a ∷ b ∷ c ∷ []) = refl
length_words (a ∷ b ∷ c ∷ d ∷ s) = omega (arith, length_words s)

-- a quotient by 256 again and again
quotients : (w : ℕ) → (w / 65536 ≡ w / 256 / 256) × (w / 16777216 ≡ w / 256 / 256 / 256)
quotients w = (omega arith, omega arith)

-- a number split by 256 three times
split : (w x y z : ℕ) → x ≡ w / 256 → y ≡ x / 256 → z ≡ y / 256 → z < 256
    → w % 256 + x % 256 * 256 + y % 256 * 65536 + z % 256 * 16777216 ≡ w
split w x y z p q r h =
    let a : w ≡ x * 256 + w % 256 = omega arith in
    let b : x ≡ y * 256 + x % 256 = omega arith in
    let c : y ≡ z * 256 + y % 256 = omega arith in
    let d : z % 256 ≡ z = omega arith in
    whole (w % 256) (x % 256) (y % 256) (z % 256) a b c d
  where
    whole : (k l m n : ℕ) → w ≡ x * 256 + k → x ≡ y * 256 + l → y ≡ z * 256 + m → n ≡ z
        → k + l * 256 + m * 65536 + n * 16777216 ≡ w
    whole k l m n a b c d = omega (arith, a, b, c, d)

-- one word
word_back : (w : ℕ) → w < 2 ^ 32 → word_from (w % 256) (w / 256 % 256) (w / 65536 % 256) (w / 16777216 % 256) ≡ w
word_back w h =
    let q = quotients w in
    let z : w / 256 / 256 / 256 < 256 = omega arith in
    rw (q.0, q.1) (split w (w / 256) (w / 256 / 256) (w / 256 / 256 / 256) refl refl refl z)

-- its four bytes
module _ (a b c d : ℕ) (p : a < 256) (q : b < 256) (r : c < 256) (s : d < 256) where
  first_byte : word_from a b c d % 256 ≡ a
  first_byte = omega arith

  second_byte : word_from a b c d / 256 % 256 ≡ b
  second_byte = omega arith

  third_byte : word_from a b c d / 65536 % 256 ≡ c
  third_byte = omega arith

  fourth_byte : word_from a b c d / 16777216 % 256 ≡ d
  fourth_byte = omega arith

-- reading what was written gives the words back
pub words_back : (ws : List ℕ) → ((k : ℕ) → at ws k < 2 ^ 32) → words_of (bytes_of ws) ≡ ws
unfolding bytes_of words_of
words_back [] h = refl
words_back (w ∷ ws) h = rw (word_back w (h 0), words_back ws (λ k. h (suc k)))

-- bytes that are whole words are the bytes of these words
pub bytes_back : (s : List ℕ) → AreBytes s → length s ≡ length (words_of s) * 4 → bytes_of (words_of s) ≡ s
unfolding bytes_of words_of
bytes_back [] h e = refl
bytes_back (a ∷ []) h e = absurd (omega arith)
bytes_back (a ∷ b ∷ []) h e = absurd (omega arith)
bytes_back (a ∷ b ∷ c ∷ []) h e = absurd (omega arith)
bytes_back (a ∷ b ∷ c ∷ d ∷ s) h e =
    rw (
      first_byte a b c d (h 0) (h 1) (h 2) (h 3),
      second_byte a b c d (h 0) (h 1) (h 2) (h 3),
      third_byte a b c d (h 0) (h 1) (h 2) (h 3),
      fourth_byte a b c d (h 0) (h 1) (h 2) (h 3),
      bytes_back s (λ k. h (suc (suc (suc (suc k))))) (omega arith),
    )

-- the word at k
pub words_at : (s : List ℕ) (k : ℕ) → k < length s / 4
    → at (words_of s) k ≡ word_from (at s (k * 4)) (at s (k * 4 + 1)) (at s (k * 4 + 2)) (at s (k * 4 + 3))
unfolding words_of
words_at [] k h = absurd (omega arith)
words_at (a ∷ []) k h = absurd (omega arith)
words_at (a ∷ b ∷ []) k h = absurd (omega arith)
words_at (a ∷ b ∷ c ∷ []) k h = absurd (omega arith)
words_at (a ∷ b ∷ c ∷ d ∷ s) zero h = refl
words_at (a ∷ b ∷ c ∷ d ∷ s) (suc k) h =
    let e : suc k * 4 ≡ suc (suc (suc (suc (k * 4)))) = omega arith in
    let f : suc k * 4 + 1 ≡ suc (suc (suc (suc (k * 4 + 1)))) = omega arith in
    let g : suc k * 4 + 2 ≡ suc (suc (suc (suc (k * 4 + 2)))) = omega arith in
    let i : suc k * 4 + 3 ≡ suc (suc (suc (suc (k * 4 + 3)))) = omega arith in
    rw (f, g, i, e) (words_at s k (omega arith))
