-- Matrices in files (document 02, A1). "A sheet file is the sheet's words and nothing more, four bytes each, lowest
-- byte first, at most 18,460 bytes" (A12: 20,420): which bytes are a file, what the reader and the writer answer, and
-- what they leave in the buffer that they write.
use Rattle.std.specs.Prelude.{ℕ, ◌+◌, ◌*◌, ◌≡◌, refl, List, ◌∷◌, ◌++◌, Bool, cond, length, drop, leb, eqb}
use Rattle.limits.specs.Sizes.{max_matrix_words}
use Rattle.conditions.specs.Tests.{◌and◌}
use Rattle.answers.specs.Answers.{Answer}
use Rattle.answers.specs.Refusals.{
  accepted,
  refused,
  unless_refused,
  invalid_first,
  insufficient_space,
  invalid_file,
}
use Rattle.words.specs.Words.{at}
use Rattle.matrix.specs.Layout.{size, entries}
use Rattle.matrix.specs.Valid.{valid}
use Rattle.encoding.specs.OneWriting.{matrix_words}
use Rattle.word_bytes.specs.Bytes.{bytes_of, words_of}

-- four bytes a word, of the largest matrix
abbrev pub max_file_bytes : ℕ
max_file_bytes = 4 * max_matrix_words

largest_file : max_file_bytes ≡ 20420
largest_file = refl

-- ---- the reader. Its bytes are given by their number n and their words h.

-- A12: "Old files start with 2, new ones with 1: the new reader takes both, an old file having revision 0". What an old
-- one lacks is the "new first section before the others".
abbrev pub old_form : List ℕ → Bool
old_form h = eqb (at h 0) 2

-- the words of the new form, and the number of its bytes
abbrev pub form_words : List ℕ → List ℕ
form_words h = cond (old_form h) (1 ∷ 0 ∷ h) h

abbrev pub form_bytes : ℕ → List ℕ → ℕ
form_bytes n h = cond (old_form h) (n + 8) n

-- a file in its new form. Not so: "a file of another length than its sheet's, or of no valid sheet"
unfoldable pub file_of : ℕ → List ℕ → Bool
file_of n h = valid h and eqb n (size h * 4)

abbrev pub file_valid : List ℕ → Bool
file_valid b = file_of (form_bytes (length b) (words_of b)) (form_words (words_of b))

-- "The reader gives 15 before 11"; 11 where the words have no room. "Accepted, both return 0 and the sheet's N."
unfoldable pub taken_answer : ℕ → List ℕ → ℕ → Answer
taken_answer n h room =
    cond (file_of n h)
    (cond (leb (size h) room) (accepted (entries h)) (refused insufficient_space))
    (refused invalid_file)

-- "Refusals .. change nothing lent; what lies behind the written part stays."
unfoldable pub taken_words : ℕ → List ℕ → List ℕ → List ℕ
taken_words n h w = unless_refused (taken_answer n h (length w)) w (h ++ drop (size h) w)

-- the answer and every word of the buffer
pub record Taken (n : ℕ) (h w : List ℕ) (answer : Answer) (w' : List ℕ) : Type 0 where
  pub answer_is : answer ≡ taken_answer n h (length w)
  pub words_are : w' ≡ taken_words n h w

-- reading the bytes b into the words w: the words of the new form are read
abbrev pub FileRead : List ℕ → List ℕ → Answer → List ℕ → Type 0
FileRead b w answer w' = Taken (form_bytes (length b) (words_of b)) (form_words (words_of b)) w answer w'

-- ---- the writer

-- "the sheet's words and nothing more": spare words are not written
abbrev pub file_bytes : List ℕ → List ℕ
file_bytes s = bytes_of (matrix_words s)

-- "the writer gives 3, then 11"
unfoldable pub written_answer : List ℕ → ℕ → Answer
written_answer s room =
    cond (valid s)
    (cond (leb (size s * 4) room) (accepted (entries s)) (refused insufficient_space))
    (refused invalid_first)

unfoldable pub written_bytes : List ℕ → List ℕ → List ℕ
written_bytes s b = unless_refused (written_answer s (length b)) b (file_bytes s ++ drop (size s * 4) b)

-- the answer and every byte of the buffer, writing the matrix in the words s into the bytes b
pub record FileWritten (s b : List ℕ) (answer : Answer) (b' : List ℕ) : Type 0 where
  pub answer_is : answer ≡ written_answer s (length b)
  pub bytes_are : b' ≡ written_bytes s b
