-- The cases of the reader, as the code reaches them.
use Prim.Native.Nat.{ℕ, ◌+◌, ◌-◌, ◌*◌, ◌/◌, ◌≤◌, ◌<◌}
use native.Mathlib.Omega.{arith}
use native.Mathlib.Nat.{le_refl}
use mathlib.Core.Path.{◌≡◌, ap, ◌∙◌}
use mathlib.Core.List.{List, [], ◌∷◌, ◌++◌, append_assoc}
use mathlib.Core.Bool.{Bool, true, false, cond}
use lib.ListN.{length, take, drop}
use lib.Seq.{take_at}
use lib.Dec.{eqb}
use borrow.Author.Tests.{le-leb, lt-leb, eq-eqb, ne_eqb, eqb-true}
use Rattle.limits.specs.Sizes.{max_matrix_words}
use Rattle.conditions.specs.Tests.{◌and◌}
use Rattle.conditions.proofs.Tests.{refuted, and_left, and_right}
use Rattle.answers.specs.Answers.{Answer}
use Rattle.answers.specs.Refusals.{accepted, refused, insufficient_space, invalid_file}
use Rattle.words.specs.Words.{part, overwrite}
use Rattle.matrix.specs.Layout.{size, entries}
use Rattle.matrix.specs.Valid.{valid}
use Rattle.matrix.proofs.Facts.{matrix_facts}
use Rattle.word_bytes.specs.Bytes.{words_of}
use Rattle.word_bytes.proofs.RoundTrips.{length_words}
use Rattle.files.specs.File.{
  max_file_bytes,
  old_form,
  form_words,
  form_bytes,
  file_of,
  taken_answer,
  taken_words,
  Taken,
  FileRead,
}

-- a matrix is no longer than the largest
pub size_most : (s : List ℕ) → valid s ≡ true → size s ≤ max_matrix_words
size_most s v = let m = matrix_facts s v in omega arith

-- words written at the front
pub overwrite_front : (x s : List ℕ) → overwrite 0 x s ≡ x ++ drop (length x) s
unfolding overwrite
overwrite_front x s = let e : 0 + length x ≡ length x = omega arith in rw e

-- the words that are read stand in `staged`, behind 1 and 0: x are those from the third on when they are back
module _ (b d x front rest : List ℕ) (f : front ≡ 1 ∷ 0 ∷ []) (e : x ≡ overwrite 0 (words_of b) d) where
  abbrev staged : List ℕ
  staged = front ++ (x ++ rest)

  behind : staged ≡ 1 ∷ 0 ∷ (words_of b ++ (drop (length (words_of b)) d ++ rest))
  behind =
      ap (λ (y : List ℕ). y ++ (x ++ rest)) f
      ∙ ap (λ (y : List ℕ). 1 ∷ 0 ∷ (y ++ rest)) (e ∙ overwrite_front (words_of b) d)
      ∙ ap (λ (y : List ℕ). 1 ∷ 0 ∷ y) (append_assoc (words_of b) (drop (length (words_of b)) d) rest)

  -- with those two
  pub staged_old : take (length b / 4 + 2) staged ≡ 1 ∷ 0 ∷ words_of b
  staged_old =
      ap (take (length b / 4 + 2)) behind
      ∙ take_at (1 ∷ 0 ∷ words_of b) (drop (length (words_of b)) d ++ rest) (length b / 4 + 2)
      (let l = length_words b in omega arith)

  -- and without them
  pub staged_new : part 2 (length b / 4 + 2) staged ≡ words_of b
  staged_new =
      ap (part 2 (length b / 4 + 2)) behind
      ∙ take_at (words_of b) (drop (length (words_of b)) d ++ rest) (length b / 4 + 2 - 2)
      (let l = length_words b in omega arith)

-- no file: 15, whatever room there is
no_file : (n : ℕ) (h w : List ℕ) → file_of n h ≡ false → Taken n h w (refused invalid_file) w
unfolding taken_answer taken_words
no_file n h w f = record { answer_is = rw f; words_are = rw f }

-- the new form has no fewer bytes
form_longer : (n : ℕ) (old : Bool) → n ≤ cond old (n + 8) n
form_longer n true = omega arith
form_longer n false = le_refl n

pub too_long : (b w : List ℕ) → max_file_bytes < length b → FileRead b w (refused invalid_file) w
unfolding file_of
too_long b w l =
    let n = form_bytes (length b) (words_of b) in
    let h = form_words (words_of b) in
    let m = form_longer (length b) (old_form (words_of b)) in
    no_file n h w
    (refuted _ (λ t.
    let v = size_most h (and_left _ (eqb n (size h * 4)) t) in
    let e : n ≡ size h * 4 = eqb-true _ _ (and_right (valid h) _ t) in
    omega arith))

-- what is taken of an old file, and of a new one
module _ (b w : List ℕ) (x : Answer) (w' : List ℕ) where
  pub read_old : old_form (words_of b) ≡ true → Taken (length b + 8) (1 ∷ 0 ∷ words_of b) w x w' → FileRead b w x w'
  read_old o t = rw o t

  pub read_new : old_form (words_of b) ≡ false → Taken (length b) (words_of b) w x w' → FileRead b w x w'
  read_new o t = rw o t

module _ (n : ℕ) (h w : List ℕ) where
  pub not_valid : valid h ≡ false → Taken n h w (refused invalid_file) w
  unfolding file_of ◌and◌
  not_valid v = no_file n h w (rw v)

  pub other_length : valid h ≡ true → (n ≡ size h * 4 → ⊥) → Taken n h w (refused invalid_file) w
  unfolding file_of ◌and◌
  other_length v f = no_file n h w (rw (v, ne_eqb n (size h * 4) f))

  -- a file
  is_file : valid h ≡ true → n ≡ size h * 4 → file_of n h ≡ true
  unfolding file_of ◌and◌
  is_file v e = rw v (eq-eqb n (size h * 4) e)

  pub no_room_lem : valid h ≡ true → n ≡ size h * 4 → length w < size h → Taken n h w (refused insufficient_space) w
  unfolding taken_answer taken_words
  no_room_lem v e l =
      let f = is_file v e in
      let g = lt-leb _ _ l in
      record { answer_is = rw (f, g); words_are = rw (f, g) }

  pub taken : valid h ≡ true → n ≡ size h * 4 → size h ≤ length w → length h ≡ n / 4 → (k : ℕ) → k ≡ entries h
      → (w' : List ℕ) → w' ≡ overwrite 0 h w → Taken n h w (accepted k) w'
  unfolding taken_answer taken_words
  taken v e l m k c w' o =
      let f = is_file v e in
      let g = le-leb _ _ l in
      let z : length h ≡ size h = omega arith in
      record {
        answer_is = rw (f, g, c);
        words_are = rw (f, g) (o ∙ overwrite_front h w ∙ ap (λ (i : ℕ). h ++ drop i w) z);
      }
