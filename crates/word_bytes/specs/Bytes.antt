-- Words of 32 bits as bytes, and bytes as words (document 02, A1: "four bytes each, lowest byte first").
use Rattle.std.specs.Prelude.{ℕ, ◌+◌, ◌*◌, ◌/◌, ◌%◌, ◌<◌, ◌≡◌, refl, List, [], ◌∷◌, ◌++◌}
use Rattle.words.specs.Words.{at}

-- the four bytes of a word
abbrev pub word_bytes : ℕ → List ℕ
word_bytes w = w % 256 ∷ w / 256 % 256 ∷ w / 65536 % 256 ∷ w / 16777216 % 256 ∷ []

-- the bytes of words
unfoldable pub bytes_of : List ℕ → List ℕ
bytes_of [] = []
bytes_of (w ∷ ws) = word_bytes w ++ bytes_of ws

-- the word of four bytes
abbrev pub word_from : ℕ → ℕ → ℕ → ℕ → ℕ
word_from a b c d = a + b * 256 + c * 65536 + d * 16777216

-- the words of bytes; one to three bytes at the end are no word
unfoldable pub words_of : List ℕ → List ℕ
words_of [] = []
words_of (a ∷ []) = []
words_of (a ∷ b ∷ []) = []
words_of (a ∷ b ∷ c ∷ []) = []
words_of (a ∷ b ∷ c ∷ d ∷ s) = word_from a b c d ∷ words_of s

-- each is a byte; past the end `at` reads 0
abbrev pub AreBytes : List ℕ → Type 0
AreBytes s = (k : ℕ) → at s k < 256

-- lowest byte first: highest first would give 1, 2, 3, 4
lowest_first : bytes_of (16909060 ∷ []) ≡ 4 ∷ 3 ∷ 2 ∷ 1 ∷ []
unfolding bytes_of
lowest_first = refl

-- -5, and the word after it
two_words : bytes_of (4294967291 ∷ 2 ∷ []) ≡ 251 ∷ 255 ∷ 255 ∷ 255 ∷ 2 ∷ 0 ∷ 0 ∷ 0 ∷ []
unfolding bytes_of
two_words = refl

read_lowest_first : words_of (4 ∷ 3 ∷ 2 ∷ 1 ∷ []) ≡ 16909060 ∷ []
unfolding words_of
read_lowest_first = refl

read_largest : words_of (255 ∷ 255 ∷ 255 ∷ 255 ∷ []) ≡ 4294967295 ∷ []
unfolding words_of
read_largest = refl

-- three bytes more are no word more
read_rest : words_of (2 ∷ 0 ∷ 0 ∷ 0 ∷ 9 ∷ 9 ∷ 9 ∷ []) ≡ 2 ∷ []
unfolding words_of
read_rest = refl
