-- Two stores, and their nearest neighbours that are none, computed.
use Rattle.std.specs.Prelude.{◌≡◌, refl, List, [], ◌∷◌, ◌++◌, true, false, ℕ, ◌+◌, ◌-◌, replicate}
use Rattle.limits.specs.Limits.{slot_count}
use Rattle.conditions.specs.Tests.{◌and◌, all}
use Rattle.matrix.specs.Valid.{in_range, header_valid, starts_valid, rows_valid, valid}
use Rattle.slots.specs.Sections.{Slots, writing, end_from, slots_from, all_zero, sectioned, slots_of}
use Rattle.slots.specs.Valid.{contents_valid, all_contents_valid, store_valid}

-- "All zeros is the fresh shelf."
abbrev fresh : List ℕ
fresh = replicate slot_count 0

pub fresh_valid : store_valid fresh ≡ true
unfolding store_valid sectioned end_from all_zero all_contents_valid contents_valid slots_of slots_from ◌and◌ all
fresh_valid = refl

pub fresh_empty : slots_of fresh ≡ replicate slot_count []
unfolding slots_of slots_from
fresh_empty = refl

-- "The 1 by 4 strip with 10, 20, 40 at columns 0, 1, 3" in slot 1, and two words more than it needs
abbrev vector_words : List ℕ
vector_words = 1 ∷ 0 ∷ 2 ∷ 1 ∷ 4 ∷ 2 ∷ 0 ∷ 3 ∷ 3 ∷ 0 ∷ 1 ∷ 3 ∷ 3 ∷ 10 ∷ 20 ∷ 40 ∷ []

abbrev one_vector : List ℕ
one_vector = (0 ∷ 16 ∷ vector_words) ++ replicate (6 + 2) 0

pub one_vector_valid : store_valid one_vector ≡ true
unfolding store_valid sectioned end_from all_zero all_contents_valid contents_valid slots_of slots_from ◌and◌ all
    valid header_valid starts_valid rows_valid in_range
one_vector_valid = refl

abbrev held : Slots
held = [] ∷ vector_words ∷ replicate (slot_count - 2) []

pub one_vector_held : slots_of one_vector ≡ held
unfolding slots_of slots_from
one_vector_held = refl

-- its sections end two words before the store does
pub one_vector_end : end_from slot_count one_vector ≡ slot_count + 16
unfolding end_from
one_vector_end = refl

pub one_vector_written : writing (slot_count + 18) held ≡ one_vector
unfolding writing
one_vector_written = refl

-- ---- what is no store
-- a word short of its slots
too_short : store_valid (replicate (slot_count - 1) 0) ≡ false
unfolding store_valid sectioned end_from all_zero all_contents_valid contents_valid slots_of slots_from ◌and◌ all
too_short = refl

-- a word behind the sections
word_behind : store_valid (fresh ++ (1 ∷ [])) ≡ false
unfolding store_valid sectioned end_from all_zero all_contents_valid contents_valid slots_of slots_from ◌and◌ all
word_behind = refl

-- a count past the end
count_past : store_valid ((0 ∷ 20 ∷ vector_words) ++ replicate (6 + 2) 0) ≡ false
unfolding store_valid sectioned end_from all_zero all_contents_valid contents_valid slots_of slots_from ◌and◌ all
    valid header_valid starts_valid rows_valid in_range
count_past = refl

-- a count of a word more than the matrix has
spare_in_slot : store_valid ((0 ∷ 17 ∷ vector_words) ++ replicate (6 + 2) 0) ≡ false
unfolding store_valid sectioned end_from all_zero all_contents_valid contents_valid slots_of slots_from ◌and◌ all
    valid header_valid starts_valid rows_valid in_range
spare_in_slot = refl

-- words that are no matrix
no_matrix : store_valid ((0 ∷ 1 ∷ 5 ∷ []) ++ replicate 6 0) ≡ false
unfolding store_valid sectioned end_from all_zero all_contents_valid contents_valid slots_of slots_from ◌and◌ all
    valid header_valid starts_valid rows_valid in_range
no_matrix = refl
