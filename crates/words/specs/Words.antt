-- Lists of words: a word, and a part.
use Rattle.std.specs.Prelude.{ℕ, ◌+◌, ◌-◌, List, ◌++◌, length, get_or, take, drop}

-- the word at i, or 0 past the end
abbrev pub at : List ℕ → ℕ → ℕ
at s i = get_or s i 0

-- the words from a up to, and not including, e
abbrev pub part : ℕ → ℕ → List ℕ → List ℕ
part a e s = take (e - a) (drop a s)

-- the words of x in place of those of s from a on
unfoldable pub overwrite : ℕ → List ℕ → List ℕ → List ℕ
overwrite a x s = take a s ++ x ++ drop (a + length x) s
