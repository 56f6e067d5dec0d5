-- Document 01's strip as a file, computed: what is read and written, and what is refused.
use Rattle.std.specs.Prelude.{ℕ, ◌≡◌, refl, List, [], ◌∷◌, ◌++◌, true, false, take, drop, replicate}
use Rattle.conditions.specs.Tests.{◌and◌, all}
use Rattle.limits.specs.Ranges.{in_range}
use Rattle.answers.specs.Refusals.{accepted, refused}
use Rattle.matrix.specs.Valid.{header_valid, starts_valid, rows_valid, valid}
use Rattle.word_bytes.specs.Bytes.{bytes_of, words_of}
use Rattle.files.specs.File.{form_words, form_bytes, file_of, file_valid, taken_answer, taken_words, written_answer, written_bytes}

-- 1 by 4 with 10, 20 and 40 at columns 0, 1 and 3; A12: "Document 01's whole strip gains "1, 0" at its front"
abbrev strip : List ℕ
strip = 1 ∷ 0 ∷ 2 ∷ 1 ∷ 4 ∷ 2 ∷ 0 ∷ 3 ∷ 3 ∷ 0 ∷ 1 ∷ 3 ∷ 3 ∷ 10 ∷ 20 ∷ 40 ∷ []

abbrev file : List ℕ
file = bytes_of strip

-- 64 bytes that are a file; a word more, a byte more and a byte less are not
strip_file : file_valid file ≡ true
unfolding file_of valid header_valid starts_valid rows_valid ◌and◌ all in_range bytes_of words_of
strip_file = refl

word_more : file_valid (file ++ (0 ∷ 0 ∷ 0 ∷ 0 ∷ [])) ≡ false
unfolding file_of valid header_valid starts_valid rows_valid ◌and◌ all in_range bytes_of words_of
word_more = refl

byte_more : file_valid (file ++ (0 ∷ [])) ≡ false
unfolding file_of valid header_valid starts_valid rows_valid ◌and◌ all in_range bytes_of words_of
byte_more = refl

byte_less : file_valid (take 63 file) ≡ false
unfolding file_of valid header_valid starts_valid rows_valid ◌and◌ all in_range bytes_of words_of
byte_less = refl

-- the same strip as it was written before A12: 56 bytes, which are read as the strip with revision 0, and need its room
abbrev old : List ℕ
old = bytes_of (drop 2 strip)

old_file_lem : file_valid old ≡ true
unfolding file_of valid header_valid starts_valid rows_valid ◌and◌ all in_range bytes_of words_of
old_file_lem = refl

old_words : form_words (words_of old) ≡ strip
unfolding bytes_of words_of
old_words = refl

old_short : taken_answer (form_bytes 56 (words_of old)) (form_words (words_of old)) 15 ≡ refused 11
unfolding taken_answer file_of valid header_valid starts_valid rows_valid ◌and◌ all in_range bytes_of words_of
old_short = refl

old_byte_more : file_valid (old ++ (0 ∷ [])) ≡ false
unfolding file_of valid header_valid starts_valid rows_valid ◌and◌ all in_range bytes_of words_of
old_byte_more = refl

-- a file that starts with another number has neither form
other_form : file_valid (bytes_of (3 ∷ drop 1 strip)) ≡ false
unfolding file_of valid header_valid starts_valid rows_valid ◌and◌ all in_range bytes_of words_of
other_form = refl

-- nothing at all
no_bytes : file_valid [] ≡ false
unfolding file_of valid header_valid starts_valid rows_valid ◌and◌ all in_range words_of
no_bytes = refl

-- 15 before 11: no file, and no room for anything
no_file_first : taken_answer 0 (words_of []) 0 ≡ refused 15
unfolding taken_answer file_of valid header_valid starts_valid rows_valid ◌and◌ all in_range words_of
no_file_first = refl

-- a word too few; exactly enough, with the word behind kept
words_short : taken_answer 64 (words_of file) 15 ≡ refused 11
unfolding taken_answer file_of valid header_valid starts_valid rows_valid ◌and◌ all in_range bytes_of words_of
words_short = refl

read_over : taken_words 64 (words_of file) (replicate 17 9) ≡ strip ++ (9 ∷ [])
unfolding taken_words taken_answer file_of valid header_valid starts_valid rows_valid ◌and◌ all in_range bytes_of words_of
read_over = refl

-- "a read file keeps its own" revision
abbrev touched : List ℕ
touched = 1 ∷ 7 ∷ drop 2 strip

read_touched : taken_words 64 (words_of (bytes_of touched)) (replicate 17 9) ≡ touched ++ (9 ∷ [])
unfolding taken_words taken_answer file_of valid header_valid starts_valid rows_valid ◌and◌ all in_range bytes_of words_of
read_touched = refl

-- the writer: 3 before 11; a byte too few; spare words are not written, and the byte behind stays
no_matrix_first : written_answer (1 ∷ []) 0 ≡ refused 3
unfolding written_answer valid header_valid starts_valid rows_valid ◌and◌ all in_range
no_matrix_first = refl

bytes_short : written_answer strip 63 ≡ refused 11
unfolding written_answer valid header_valid starts_valid rows_valid ◌and◌ all in_range
bytes_short = refl

written : written_answer strip 64 ≡ accepted 3
unfolding written_answer valid header_valid starts_valid rows_valid ◌and◌ all in_range
written = refl

write_over : written_bytes (strip ++ (7 ∷ 7 ∷ [])) (replicate 65 9) ≡ file ++ (9 ∷ [])
unfolding written_bytes written_answer valid header_valid starts_valid rows_valid ◌and◌ all in_range bytes_of
write_over = refl
