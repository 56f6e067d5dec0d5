-- A section of words "after its count": where its words stand, and how words are taken apart into sections.
use Prim.Native.Nat.{ℕ, ◌+◌, ◌-◌, ◌≤◌, ◌<◌}
use native.Mathlib.Omega.{arith}
use native.Mathlib.Nat.{add-zero}
use native.Mathlib.Numerals.{add-one}
use mathlib.Core.Path.{◌≡◌, refl, sym, ap, ◌∙◌}
use mathlib.Core.List.{List, ◌∷◌, ◌++◌}
use lib.ListN.{length, drop, take-append-drop, get_or-append}
use lib.Seq.{drop-cons, drop-drop, get_or-drop, drop_at}
use Rattle.words.specs.Words.{at, part}
use Rattle.words.proofs.Parts.{length_part, part_within}
use Rattle.encoding.specs.Encode.{counted}

-- the words x stand in s after their count, which stands at a, and the words of `rest` follow
pub record Section (s : List ℕ) (a : ℕ) (x rest : List ℕ) : Type 0 where
  pub here : drop a s ≡ counted x ++ rest

module _ {s : List ℕ} {a : ℕ} {x rest : List ℕ} (h : Section s a x rest) where
  -- the count
  pub section_count : at s a ≡ length x
  section_count = rw add-zero at (sym (get_or-drop a s 0 0) ∙ ap (λ (l : List ℕ). at l 0) h.here)

  -- the words after it
  past_count : drop (a + 1) s ≡ x ++ rest
  past_count = sym (drop-drop 1 a s) ∙ ap (drop 1) h.here

  -- a word of the section
  pub section_at : (k i : ℕ) → a + 1 + i ≡ k → i < length x → at s k ≡ at x i
  section_at k i e l =
      rw (← e, ← (get_or-drop (a + 1) s i 0), past_count) (get_or-append x rest 0 i l)

  -- a part of the section, whose first word stands at b
  pub section_part : (b i e : ℕ) → a + 1 ≡ b → i ≤ e → e ≤ length x → part (b + i) (b + e) s ≡ part i e x
  section_part b i e q l k =
      let m : (b + e) - (b + i) ≡ e - i = omega arith in
      rw (m, ← q, ← (drop-drop i (a + 1) s), past_count) (part_within x rest i e l k)

  -- what comes after the section
  pub section_rest : (b : ℕ) → a + 1 + length x ≡ b → drop b s ≡ rest
  section_rest b e = rw (← e, ← (drop-drop (length x) (a + 1) s), past_count) (drop_at x rest (length x) refl)

-- words that begin with a count, at a, are a section from b up to e
pub section_made : (a b e : ℕ) (s : List ℕ) → a + 1 ≡ b → b + at s a ≡ e → e ≤ length s
    → Section s a (part b e s) (drop e s)
section_made a b e s p q h =
    let n : length (part b e s) ≡ at s a = length_part b e s h ∙ omega arith in
    let m : b + (e - b) ≡ e = omega arith in
    record {
      here = rw (n, drop-cons s a 0 (omega arith), ← (add-one a), p)
          (ap (λ (l : List ℕ). at s a ∷ l)
          (sym (take-append-drop (e - b) (drop b s)) ∙ rw (drop-drop (e - b) b s, m)));
    }
