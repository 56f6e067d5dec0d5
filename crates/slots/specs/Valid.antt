-- Which words are a store (document 01, "The shelf").
use Rattle.std.specs.Prelude.{ℕ, ◌+◌, Bool, true, cond, List, length, leb, eqb}
use Rattle.limits.specs.Limits.{slot_count, max_store_words}
use Rattle.words.specs.Words.{at, part}
use Rattle.conditions.specs.Tests.{◌and◌, all}
use Rattle.matrix.specs.Layout.{size}
use Rattle.matrix.specs.Valid.{valid}
use Rattle.slots.specs.Sections.{end_from, sectioned, slot_at}

-- what a slot may hold: no words, or a valid matrix that fills its count
unfoldable pub contents_valid : List ℕ → Bool
contents_valid x = cond (eqb (length x) 0) true (valid x and eqb (size x) (length x))

-- every slot
unfoldable pub all_contents_valid : List ℕ → Bool
all_contents_valid s = all slot_count (λ k. contents_valid (slot_at s k))

-- "The length is 8 to 16,384 words.", eight sections and then zeros, each "a count of words (0 for an empty place) and
-- then the sheet"
unfoldable pub store_valid : List ℕ → Bool
store_valid s =
    leb slot_count (length s)
    and leb (length s) max_store_words
    and sectioned slot_count s
    and all_contents_valid s

-- ---- what parts of `check` test

-- one section, from word a on
unfoldable pub section_valid : List ℕ → ℕ → Bool
section_valid s a = leb (a + 1 + at s a) (length s) and contents_valid (part (a + 1) (a + 1 + at s a) s)

-- all sections, whatever comes after them
unfoldable pub sections_valid : List ℕ → Bool
sections_valid s = leb (end_from slot_count s) (length s) and all_contents_valid s
