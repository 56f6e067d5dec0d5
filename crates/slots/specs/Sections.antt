-- The buffer of a store as sections of words (document 01, "The shelf": eight places). What a slot holds is here a list
-- of words, and no grid.
use Rattle.std.specs.Prelude.{ℕ, zero, suc, ◌+◌, ◌-◌, Bool, List, [], ◌∷◌, ◌++◌, length, get_or, drop, replicate, leb, eqb}
use Rattle.limits.specs.Limits.{slot_count}
use Rattle.words.specs.Words.{at, part}
use Rattle.conditions.specs.Tests.{◌and◌, all}

-- the contents of the slots in order; an empty slot has no words
abbrev pub Slots : Type 0
Slots = List (List ℕ)

-- the words of all contents
abbrev pub total : Slots → ℕ
total [] = 0
total (x ∷ w) = length x + total w

-- ---- from contents to words

-- "sections in place order, each a count of words (0 for an empty place) and then the sheet"
abbrev pub written : Slots → List ℕ
written [] = []
written (x ∷ w) = length x ∷ (x ++ written w)

-- "Zeros fill the rest of the length": of n words
unfoldable pub writing : ℕ → Slots → List ℕ
writing n w = written w ++ replicate (n - length (written w)) 0

-- ---- from words to contents, for any words; a word past the end reads as 0

-- the words of the first k sections, which is where the next one starts
unfoldable pub end_from : ℕ → List ℕ → ℕ
end_from zero s = 0
end_from (suc k) s = 1 + at s 0 + end_from k (drop (1 + at s 0) s)

-- the contents of the first k sections
unfoldable pub slots_from : ℕ → List ℕ → Slots
slots_from zero s = []
slots_from (suc k) s = part 1 (1 + at s 0) s ∷ slots_from k (drop (1 + at s 0) s)

-- "all later words are zero"
unfoldable pub all_zero : List ℕ → Bool
all_zero s = all (length s) (λ i. eqb (at s i) 0)

-- k sections lie within the words, and only zeros come after them
unfoldable pub sectioned : ℕ → List ℕ → Bool
sectioned k s = leb (end_from k s) (length s) and all_zero (drop (end_from k s) s)

-- "The buffer holds eight sections": the contents of all slots, and of slot k
unfoldable pub slots_of : List ℕ → Slots
slots_of s = slots_from slot_count s

abbrev pub slot_at : List ℕ → ℕ → List ℕ
slot_at s k = get_or (slots_of s) k []

-- the count of slot k, as its section has it
abbrev pub count_at : List ℕ → ℕ → ℕ
count_at s k = at s (end_from k s)
