-- What the exported calls on files and texts answer and leave: the calls' own definitions, with the answer in one
-- number r.
use Rattle.std.specs.Prelude.{ℕ, ◌+◌, ◌*◌, ◌%◌, ◌/◌, ◌≡◌, List}
use Rattle.answers.specs.Answers.{Answer}
use Rattle.files.specs.File.{FileRead, FileWritten}
use Rattle.text.specs.Text.{TextAnswer}
use Rattle.text.specs.Text.{TextWritten}
use Rattle.exports.specs.Packing.{code_limit, upper_word, packed}

-- the answer of a text: the code in the lower word, the number of bytes in the upper
abbrev pub packed_text : TextAnswer → ℕ
packed_text a = a.code + a.length * upper_word

-- a file read into lent words, and a matrix written as a file and as a text into lent bytes
pub record LentFileRead (b w : List ℕ) (r : ℕ) (w' : List ℕ) : Type 0 where
  pub answer : Answer
  pub packed_is : r ≡ packed answer
  pub done : FileRead b w answer w'

pub record LentFileWritten (s b : List ℕ) (r : ℕ) (b' : List ℕ) : Type 0 where
  pub answer : Answer
  pub packed_is : r ≡ packed answer
  pub done : FileWritten s b answer b'

pub record LentTextWritten (s b : List ℕ) (r : ℕ) (b' : List ℕ) : Type 0 where
  pub answer : TextAnswer
  pub packed_is : r ≡ packed_text answer
  pub done : TextWritten s b answer b'

-- r is taken apart into the answer of a text
pub record UnpackedText (r : ℕ) (a : TextAnswer) : Type 0 where
  pub code : r % code_limit ≡ a.code
  pub length : r / upper_word ≡ a.length
