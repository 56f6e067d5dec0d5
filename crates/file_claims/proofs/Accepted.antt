-- What an accepted call says, and when a call is accepted: the contracts of the reader and of the writer taken apart.
use Prim.Native.Nat.{ℕ, ◌*◌, ◌≤◌}
use native.Mathlib.Omega.{arith}
use mathlib.Core.Path.{◌≡◌, refl, sym, ap, ◌∙◌}
use mathlib.Core.Bool.{Bool, true, false, cond}
use mathlib.Core.List.{List, ◌++◌}
use lib.ListN.{length, drop}
use lib.Dec.{leb, eqb}
use borrow.Author.Tests.{le-leb, leb-true, eq-eqb, eqb-true}
use Rattle.conditions.proofs.Tests.{and_left, and_right, and_both}
use Rattle.answers.specs.Answers.{Answer}
use Rattle.answers.specs.Refusals.{accepted, refused, insufficient_space, invalid_file, invalid_first}
use Rattle.matrix.specs.Layout.{size, entries}
use Rattle.matrix.specs.Valid.{valid}
use Rattle.files.specs.File.{
  file_of,
  file_bytes,
  taken_answer,
  taken_words,
  Taken,
  written_answer,
  written_bytes,
  FileWritten,
}

-- an answer of three ways whose code is 0 went the first one
module _ (n x y : ℕ) where
  answer : Bool → Bool → Answer
  answer a b = cond a (cond b (accepted n) (refused x)) (refused y)

  first : (a b : Bool) → (x ≡ 0 → ⊥) → (y ≡ 0 → ⊥) → (answer a b).code ≡ 0 → (a ≡ true) × (b ≡ true)
  unfolding answer
  first true true f g e = (refl, refl)
  first true false f g e = absurd (f e)
  first false b f g e = absurd (g e)

-- an accepted reading
pub record Read (n : ℕ) (h w : List ℕ) (x : Answer) (w' : List ℕ) : Type 0 where
  pub valid_words : valid h ≡ true
  pub bytes : n ≡ size h * 4
  pub room : size h ≤ length w
  pub answer_is : x ≡ accepted (entries h)
  pub words_are : w' ≡ h ++ drop (size h) w

module _ (n : ℕ) (h w : List ℕ) where
  taken_when : file_of n h ≡ true → size h ≤ length w
      → (taken_answer n h (length w) ≡ accepted (entries h)) × (taken_words n h w ≡ h ++ drop (size h) w)
  unfolding taken_answer taken_words
  taken_when f l = let g = le-leb _ _ l in (rw (f, g), rw (f, g))

  pub read_accepted : (x : Answer) (w' : List ℕ) → Taken n h w x w' → x.code ≡ 0 → Read n h w x w'
  unfolding taken_answer file_of answer
  read_accepted x w' t e =
      let c = ap (λ (a : Answer). a.code) (sym t.answer_is) ∙ e in
      let b = first (entries h) insufficient_space invalid_file (file_of n h) (leb (size h) (length w))
      (λ z. omega arith) (λ z. omega arith) c in
      let l = leb-true _ _ b.1 in
      let d = taken_when b.0 l in
      record {
        valid_words = and_left (valid h) (eqb n (size h * 4)) b.0;
        bytes = eqb-true _ _ (and_right (valid h) (eqb n (size h * 4)) b.0);
        room = l;
        answer_is = t.answer_is ∙ d.0;
        words_are = t.words_are ∙ d.1;
      }

  pub file_read : (x : Answer) (w' : List ℕ) → valid h ≡ true → n ≡ size h * 4 → size h ≤ length w → Taken n h w x w'
      → (x ≡ accepted (entries h)) × (w' ≡ h ++ drop (size h) w)
  unfolding file_of
  file_read x w' v e l t =
      let d = taken_when (and_both v (eq-eqb n (size h * 4) e)) l in
      (t.answer_is ∙ d.0, t.words_are ∙ d.1)

-- an accepted writing
pub record Wrote (s b : List ℕ) (x : Answer) (b' : List ℕ) : Type 0 where
  pub valid_words : valid s ≡ true
  pub room : size s * 4 ≤ length b
  pub answer_is : x ≡ accepted (entries s)
  pub bytes_are : b' ≡ file_bytes s ++ drop (size s * 4) b

module _ (s b : List ℕ) where
  written_when : valid s ≡ true → size s * 4 ≤ length b
      → (written_answer s (length b) ≡ accepted (entries s)) × (written_bytes s b ≡ file_bytes s ++ drop (size s * 4) b)
  unfolding written_answer written_bytes
  written_when v l = let g = le-leb _ _ l in (rw (v, g), rw (v, g))

  pub write_accepted : (x : Answer) (b' : List ℕ) → FileWritten s b x b' → x.code ≡ 0 → Wrote s b x b'
  unfolding written_answer answer
  write_accepted x b' t e =
      let c = ap (λ (a : Answer). a.code) (sym t.answer_is) ∙ e in
      let k = first (entries s) insufficient_space invalid_first (valid s) (leb (size s * 4) (length b))
      (λ z. omega arith) (λ z. omega arith) c in
      let l = leb-true _ _ k.1 in
      let d = written_when k.0 l in
      record {
        valid_words = k.0;
        room = l;
        answer_is = t.answer_is ∙ d.0;
        bytes_are = t.bytes_are ∙ d.1;
      }

  pub file_written : (x : Answer) (b' : List ℕ) → valid s ≡ true → size s * 4 ≤ length b → FileWritten s b x b'
      → (x ≡ accepted (entries s)) × (b' ≡ file_bytes s ++ drop (size s * 4) b)
  file_written x b' v l t = let d = written_when v l in (t.answer_is ∙ d.0, t.bytes_are ∙ d.1)
