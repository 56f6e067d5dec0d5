-- What `put` and `resize` leave: in the whole store, and in the words from the slot's section onward, which are lent on: "The
-- shelf's words from one place's section onward are lent on as a mutable part to be written".
use Rattle.std.specs.Prelude.{ℕ, ◌+◌, ◌-◌, ◌≤◌, ◌≡◌, Bool, cond, List, ◌∷◌, ◌++◌, length, drop, set, replicate, leb}
use Rattle.limits.specs.Limits.{slot_count, max_store_words}
use Rattle.words.specs.Words.{at, part}
use Rattle.slots.specs.Sections.{writing, end_from, slots_of, count_at}

-- the words x in slot k of a store, whatever it held
abbrev pub slot_put : List ℕ → ℕ → List ℕ → List ℕ
slot_put s k x = writing (length s) (set (slots_of s) k x)

-- the words that the sections take with n words in slot k
abbrev pub words_with : List ℕ → ℕ → ℕ → ℕ
words_with s k n = end_from slot_count s - count_at s k + n

-- the words x in slot k where there is room for them, which r tells; else as it was
pub record Filled (s : List ℕ) (k : ℕ) (x : List ℕ) (r : Bool) (s' : List ℕ) : Type 0 where
  pub room_is : r ≡ leb (words_with s k (length x)) (length s)
  pub words_are : s' ≡ cond r (slot_put s k x) s

-- slot k has `size` words: those that stand after its count now, to be written by the caller
abbrev pub resized : List ℕ → ℕ → ℕ → List ℕ
resized s k size = slot_put s k (part (end_from k s + 1) (end_from k s + 1 + size) s)

-- the sections in t end at `end`, zeros follow, and there is room for a first section of `size` words
pub record Room (t : List ℕ) (end size : ℕ) : Type 0 where
  pub first : 1 + at t 0 ≤ end
  pub inside : end ≤ length t
  pub room : end - at t 0 + size ≤ length t
  pub zeros : drop end t ≡ replicate (length t - end) 0
  pub most : length t ≤ max_store_words

-- the first section has the count `size`, and holds what stands in its place; the later sections follow, and zeros
unfoldable pub room_made : List ℕ → ℕ → ℕ → List ℕ
room_made t end size =
    size ∷ (part 1 (1 + size) t
    ++ (part (1 + at t 0) end t ++ replicate (length t - (end - at t 0 + size)) 0))
