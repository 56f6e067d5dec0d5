-- The cases of the writer, as the code reaches them.
use Prim.Native.Nat.{ℕ, ◌*◌, ◌≤◌, ◌<◌}
use mathlib.Core.Path.{◌≡◌, ap, ◌∙◌}
use mathlib.Core.List.{List, ◌++◌}
use mathlib.Core.Bool.{true, false}
use lib.ListN.{length, drop}
use lib.Seq.{length-take-le}
use borrow.Author.Tests.{le-leb, lt-leb}
use Rattle.answers.specs.Refusals.{accepted, refused, invalid_first, insufficient_space}
use Rattle.words.specs.Words.{overwrite}
use Rattle.matrix.specs.Layout.{size, entries}
use Rattle.matrix.specs.Valid.{valid}
use Rattle.matrix.proofs.Facts.{matrix_facts}
use Rattle.encoding.specs.OneWriting.{matrix_words}
use Rattle.word_bytes.proofs.RoundTrips.{length_bytes}
use Rattle.files.specs.File.{file_bytes, written_answer, written_bytes, FileWritten}
use Rattle.files.proofs.Reading.{overwrite_front}

-- a file has four bytes for each word
pub file_length : (s : List ℕ) → valid s ≡ true → length (file_bytes s) ≡ size s * 4
file_length s v =
    let m = matrix_facts s v in
    length_bytes (matrix_words s) ∙ ap (λ (k : ℕ). k * 4) (length-take-le (size s) s m.header.fits)

module _ (s b : List ℕ) where
  pub no_matrix : valid s ≡ false → FileWritten s b (refused invalid_first) b
  unfolding written_answer written_bytes
  no_matrix v = record { answer_is = rw v; bytes_are = rw v }

  pub bytes_short : valid s ≡ true → length b < size s * 4 → FileWritten s b (refused insufficient_space) b
  unfolding written_answer written_bytes
  bytes_short v l = let g = lt-leb _ _ l in record { answer_is = rw (v, g); bytes_are = rw (v, g) }

  pub written : valid s ≡ true → size s * 4 ≤ length b → (k : ℕ) → k ≡ entries s
      → (b' : List ℕ) → b' ≡ overwrite 0 (file_bytes s) b → FileWritten s b (accepted k) b'
  unfolding written_answer written_bytes
  written v l k c b' o =
      let g = le-leb _ _ l in
      record {
        answer_is = rw (v, g, c);
        bytes_are = rw (v, g)
            (o ∙ overwrite_front (file_bytes s) b ∙ ap (λ (i : ℕ). file_bytes s ++ drop i b) (file_length s v));
      }
