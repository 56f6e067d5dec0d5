-- Laws of `overwrite`: what stands where afterwards, and the turns of a loop that writes word by word.
use Prim.Native.Nat.{ℕ, ◌+◌, ◌-◌, ◌≤◌, ◌<◌}
use native.Mathlib.Omega.{arith}
use native.Mathlib.Numerals.{add-one}
use mathlib.Core.Path.{◌≡◌, sym, ap, ◌∙◌}
use mathlib.Core.List.{List, [], ◌++◌, append-nil}
use Rattle.std.proofs.lemmas.List.{nil_from_length, take-append-drop}
use lib.ListN.{length, take, drop, set, length-append, length-drop, get_or-append}
use lib.Seq.{length-take-le, get_or-take, get_or-drop, get_or-append-add, ext_get_or, take-length, paste, paste-suc}
use Rattle.std.specs.List.{copy_within}
use Rattle.words.specs.Words.{at, part, overwrite}
use Rattle.words.proofs.Parts.{part_at, length_part}

-- parts of two lists that agree word by word
pub part_same : (a e : ℕ) (s t : List ℕ) → e ≤ length s → e ≤ length t
    → ((i : ℕ) → a ≤ i → i < e → at s i ≡ at t i) → part a e s ≡ part a e t
part_same a e s t h k f =
    let p = length_part a e s h in
    let q = length_part a e t k in
    ext_get_or 0 (part a e s) (part a e t) (p ∙ sym q)
    (λ i l. part_at a e i s (omega arith) ∙ f (a + i) (omega arith) (omega arith) ∙ sym (part_at a e i t (omega arith)))

module _ (a : ℕ) (x s : List ℕ) (h : a + length x ≤ length s) where
  front : length (take a s ++ x) ≡ a + length x
  front = let f = length-take-le a s (omega arith) in simp length-append (omega arith)

  pub overwrite_length : length (overwrite a x s) ≡ length s
  unfolding overwrite
  overwrite_length = let f = front in simp (length-append, length-drop) (omega (arith, length-take-le a s (omega arith)))

  -- words before, among and after those written
  pub overwrite_before : (i : ℕ) → i < a → at (overwrite a x s) i ≡ at s i
  unfolding overwrite
  overwrite_before i l =
      let f = length-take-le a s (omega arith) in
      get_or-append (take a s ++ x) (drop (a + length x) s) 0 i (omega (arith, front))
      ∙ get_or-append (take a s) x 0 i (omega arith) ∙ get_or-take a s i 0 l

  pub overwrite_at : (i : ℕ) → i < length x → at (overwrite a x s) (a + i) ≡ at x i
  unfolding overwrite
  overwrite_at i l =
      let f = length-take-le a s (omega arith) in
      get_or-append (take a s ++ x) (drop (a + length x) s) 0 (a + i) (omega (arith, front))
      ∙ ap (λ (k : ℕ). at (take a s ++ x) (k + i)) (sym f) ∙ get_or-append-add (take a s) x i 0

  pub overwrite_after : (i : ℕ) → a + length x ≤ i → at (overwrite a x s) i ≡ at s i
  unfolding overwrite
  overwrite_after i l =
      let n = a + length x in
      let e : i ≡ length (take a s ++ x) + (i - n) = omega (arith, front) in
      let g : n + (i - n) ≡ i = omega arith in
      ap (at (take a s ++ x ++ drop n s)) e ∙ get_or-append-add (take a s ++ x) (drop n s) (i - n) 0
      ∙ get_or-drop n s (i - n) 0 ∙ ap (at s) g

  -- parts before, after and of the words written
  pub overwrite_part_before : (b e : ℕ) → e ≤ a → part b e (overwrite a x s) ≡ part b e s
  overwrite_part_before b e l =
      part_same b e (overwrite a x s) s (omega (arith, overwrite_length)) (omega arith)
      (λ i p q. overwrite_before i (omega arith))

  pub overwrite_part_after : (b e : ℕ) → a + length x ≤ b → e ≤ length s → part b e (overwrite a x s) ≡ part b e s
  overwrite_part_after b e l m =
      part_same b e (overwrite a x s) s (omega (arith, overwrite_length)) m (λ i p q. overwrite_after i (omega arith))

  pub overwrite_here : part a (a + length x) (overwrite a x s) ≡ x
  overwrite_here =
      let p = length_part a (a + length x) (overwrite a x s) (omega (arith, overwrite_length)) in
      ext_get_or 0 (part a (a + length x) (overwrite a x s)) x (omega arith)
      (λ i l. part_at a (a + length x) i (overwrite a x s) (omega arith) ∙ overwrite_at i (omega arith))

  -- all words written, one after the other
  pub overwrite_done : (n : ℕ) → n ≡ length x → paste s a x n ≡ overwrite a x s
  unfolding overwrite
  overwrite_done n e = rw (e, take-length x)

-- no words written
pub overwrite_none : (a : ℕ) (x s : List ℕ) → length x ≡ 0 → s ≡ overwrite a x s
unfolding overwrite
overwrite_none a x s e =
    let f : x ≡ [] = nil_from_length x e in
    let g : a + length x ≡ a = omega arith in
    rw (g, f, append-nil (take a s), take-append-drop a s)

-- the words that were moved
pub move_done : (s : List ℕ) (from to n : ℕ) → from + n ≤ length s
    → copy_within s from (from + n) to ≡ overwrite to (part from (from + n) s) s
unfolding overwrite
move_done s from to n h = let k = length_part from (from + n) s h in rw k

-- a turn of a loop that copies
pub copy_turn : (d : List ℕ) (a : ℕ) (x : List ℕ) (k : ℕ) → a + k < length d → k < length x
    → set (paste d a x k) (a + k) (at x k) ≡ paste d a x (k + 1)
copy_turn d a x k h l = paste-suc d a x k 0 h l ∙ ap (paste d a x) (sym (add-one k))
