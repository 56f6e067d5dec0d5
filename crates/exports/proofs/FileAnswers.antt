-- What a caller takes out of the answers of the calls on files and texts is what was packed.
use Prim.Native.Nat.{ℕ, ◌*◌, ◌<◌}
use mathlib.Core.Path.{◌≡◌, ap}
use mathlib.Core.Bool.{Bool, true, false, cond}
use mathlib.Core.List.{List}
use native.Mathlib.Omega.{arith}
use lib.ListN.{length}
use lib.Dec.{leb}
use Rattle.answers.specs.Answers.{Answer}
use Rattle.answers.specs.Refusals.{code_limit, accepted, refused, invalid_first, insufficient_space, invalid_file}
use Rattle.matrix.specs.Layout.{size, entries, grid_of}
use Rattle.matrix.specs.Valid.{valid}
use Rattle.word_bytes.specs.Bytes.{words_of}
use Rattle.files.specs.File.{form_words, form_bytes, file_of, taken_answer, written_answer}
use Rattle.text.specs.Text.{TextAnswer}
use Rattle.text.specs.Text.{text_of, max_text_bytes, text_answer}
use Rattle.exports.specs.Packing.{packed}
use Rattle.exports.specs.Unpacked.{Unpacked}
use Rattle.exports.specs.Files.{LentFileRead, LentFileWritten, LentTextWritten, UnpackedText}

-- one of two answers, by a test
either : (b : Bool) (x y : Answer) → x.code < code_limit → y.code < code_limit → (cond b x y).code < code_limit
either true x y p q = p
either false x y p q = q

either_text : (b : Bool) (x y : TextAnswer) → x.code < code_limit → y.code < code_limit → (cond b x y).code < code_limit
either_text true x y p q = p
either_text false x y p q = q

-- three ways, as all three calls have them
ways : (a b : Bool) (n x y : ℕ) → x < code_limit → y < code_limit
    → (cond a (cond b (accepted n) (refused x)) (refused y)).code < code_limit
ways a b n x y p q =
    either a (cond b (accepted n) (refused x)) (refused y) (either b (accepted n) (refused x) (omega arith) p) q

unpacked : (r : ℕ) (a : Answer) → r ≡ packed a → a.code < code_limit → Unpacked r a
unpacked r a e h = record { code = omega arith; entries = omega arith }

pub read_file_unpacked : (b w : List ℕ) (r : ℕ) (w' : List ℕ) (h : LentFileRead b w r w') → Unpacked r h.answer
unfolding taken_answer
read_file_unpacked b w r w' h =
    let s = form_words (words_of b) in
    let k = ways (file_of (form_bytes (length b) (words_of b)) s) (leb (size s) (length w)) (entries s) insufficient_space invalid_file
    (omega arith) (omega arith) in
    let p = ap (λ (x : Answer). x.code) h.done.answer_is in
    unpacked r h.answer h.packed_is (omega arith)

pub write_file_unpacked : (s b : List ℕ) (r : ℕ) (b' : List ℕ) (h : LentFileWritten s b r b') → Unpacked r h.answer
unfolding written_answer
write_file_unpacked s b r b' h =
    let k = ways (valid s) (leb (size s * 4) (length b)) (entries s) insufficient_space invalid_first
    (omega arith) (omega arith) in
    let p = ap (λ (x : Answer). x.code) h.done.answer_is in
    unpacked r h.answer h.packed_is (omega arith)

pub text_unpacked : (s b : List ℕ) (r : ℕ) (b' : List ℕ) (h : LentTextWritten s b r b') → UnpackedText r h.answer
unfolding text_answer
text_unpacked s b r b' h =
    let short : TextAnswer = record { code = insufficient_space; length = 0 } in
    let none : TextAnswer = record { code = invalid_first; length = 0 } in
    let done : TextAnswer = record { code = 0; length = length (text_of (grid_of s)) } in
    let k = either_text (valid s) (cond (leb max_text_bytes (length b)) done short) none
    (either_text (leb max_text_bytes (length b)) done short (omega arith) (omega arith)) (omega arith) in
    let p = ap (λ (x : TextAnswer). x.code) h.done.answer_is in
    let c : h.answer.code < code_limit = omega arith in
    let e = h.packed_is in
    record { code = omega arith; length = omega arith }
