-- The sections of any words: where each starts, what it holds, and the words written again.
use Prim.Native.Nat.{ℕ, zero, suc, ◌+◌, ◌-◌, ◌≤◌, ◌<◌}
use native.Mathlib.Omega.{arith}
use native.Mathlib.Nat.{add-zero}
use native.Mathlib.Numerals.{add-one}
use mathlib.Core.Path.{◌≡◌, refl, sym, ap, ◌∙◌}
use mathlib.Core.List.{List, [], ◌∷◌, ◌++◌}
use lib.ListN.{length, take, drop, get_or, replicate, length-drop, take-append-drop}
use lib.Seq.{length-take-le, get_or-drop, drop-drop, take-add}
use Rattle.limits.specs.Limits.{slot_count}
use Rattle.words.specs.Words.{at, part}
use Rattle.slots.specs.Sections.{written, writing, end_from, slots_from, slots_of, slot_at, count_at}
use Rattle.slots.specs.Facts.{Sections}

-- ---- where sections start

-- a section more, as a loop over them goes
end_suc : (k : ℕ) (s : List ℕ) → end_from (suc k) s ≡ end_from k s + 1 + count_at s k
unfolding end_from
end_suc zero s = omega arith
end_suc (suc k) s =
    let t : List ℕ = drop (1 + at s 0) s in
    let e = end_suc k t in
    let g = get_or-drop (1 + at s 0) s (end_from k t) 0 in
    omega arith

pub end_more : (k : ℕ) (s : List ℕ) → end_from (k + 1) s ≡ end_from k s + 1 + count_at s k
end_more k s = ap (λ (j : ℕ). end_from j s) (add-one k) ∙ end_suc k s

-- where the first section starts
pub end_none : (s : List ℕ) → end_from 0 s ≡ 0
unfolding end_from
end_none s = refl

-- each section has at least its count
pub end_least : (k : ℕ) (s : List ℕ) → k ≤ end_from k s
end_least zero s = omega arith
end_least (suc k) s = let i = end_least k s in let e = end_suc k s in omega arith

-- sections start one after the other
end_after : (k j : ℕ) (s : List ℕ) → end_from k s ≤ end_from (k + j) s
end_after k zero s = rw (add-zero k) (omega arith)
end_after k (suc j) s =
    let i = end_after k j s in
    let e = end_suc (k + j) s in
    let q : k + suc j ≡ suc (k + j) = omega arith in
    rw q (omega arith)

-- a section ends before all do
pub end_rises : (k n : ℕ) (s : List ℕ) → k < n → end_from k s + 1 + count_at s k ≤ end_from n s
end_rises k n s h =
    let q : k + 1 + (n - (k + 1)) ≡ n = omega arith in
    let e = end_after (k + 1) (n - (k + 1)) s in
    let m = end_more k s in
    let r = ap (λ (j : ℕ). end_from j s) q in
    omega arith

-- the section of slot k of a store, at a place a that is known to be its start
pub record Section (s : List ℕ) (a k : ℕ) : Type 0 where
  pub next : a + 1 + at s a ≡ end_from (k + 1) s
  pub before : a + 1 + at s a ≤ end_from slot_count s
  pub inside : end_from slot_count s ≤ length s

pub section_at : (s : List ℕ) (a k : ℕ) → end_from slot_count s ≤ length s → k < slot_count → a ≡ end_from k s
    → Section s a k
section_at s a k h l e =
    let g : at s a ≡ count_at s k = ap (λ (i : ℕ). at s i) e in
    let m = end_more k s in
    let r = end_rises k slot_count s l in
    record { next = omega arith; before = omega arith; inside = h }

-- ---- what sections hold

-- a part that is taken within a tail
pub tail_part : (s : List ℕ) (a b e : ℕ) → part b e (drop a s) ≡ part (a + b) (a + e) s
tail_part s a b e =
    let q : a + e - (a + b) ≡ e - b = omega arith in
    rw (drop-drop b a s, q)

-- the contents of section k among n
contents_from : (n k : ℕ) (s : List ℕ) → k < n
    → get_or (slots_from n s) k [] ≡ part (end_from k s + 1) (end_from k s + 1 + count_at s k) s
unfolding slots_from end_from
contents_from zero k s h = let z : ⊥ = omega arith in absurd z
contents_from (suc n) zero s h = refl
contents_from (suc n) (suc k) s h =
    let c : ℕ = 1 + at s 0 in
    let t : List ℕ = drop c s in
    let g : at t (end_from k t) ≡ at s (c + end_from k t) = get_or-drop c s (end_from k t) 0 in
    let e : c + (end_from k t + 1) ≡ c + end_from k t + 1 = omega arith in
    let f : c + (end_from k t + 1 + at t (end_from k t)) ≡ c + end_from k t + 1 + at s (c + end_from k t) = omega arith in
    contents_from n k t (omega arith)
    ∙ tail_part s c (end_from k t + 1) (end_from k t + 1 + at t (end_from k t))
    ∙ rw (e, f)

-- the contents of slot k in words, at a place a that is known to be its section's start
pub slot_words : (s : List ℕ) (a k : ℕ) → k < slot_count → a ≡ end_from k s
    → slot_at s k ≡ part (a + 1) (a + 1 + at s a) s
unfolding slots_of
slot_words s a k h e =
    contents_from slot_count k s h ∙ ap (λ (i : ℕ). part (i + 1) (i + 1 + at s i) s) (sym e)

-- k sections have k contents
slots_length : (k : ℕ) (s : List ℕ) → length (slots_from k s) ≡ k
unfolding slots_from
slots_length zero s = refl
slots_length (suc k) s = ap suc (slots_length k (drop (1 + at s 0) s))

-- "Eight places"
pub slot_count_lem : (s : List ℕ) → length (slots_of s) ≡ slot_count
unfolding slots_of
slot_count_lem s = slots_length slot_count s

-- ---- the words again

-- the first word taken off
pub head_of : (s : List ℕ) (n : ℕ) → 0 < length s → take (1 + n) s ≡ at s 0 ∷ take n (drop 1 s)
head_of [] n h = let z : ⊥ = omega arith in absurd z
head_of (a ∷ s) n h = let e : 1 + n ≡ suc n = omega arith in rw e

-- the words of the first k sections
sections_written : (k : ℕ) (s : List ℕ) → end_from k s ≤ length s → take (end_from k s) s ≡ written (slots_from k s)
unfolding end_from slots_from
sections_written zero s h = refl
sections_written (suc k) s h =
    let c : ℕ = at s 0 in
    let t : List ℕ = drop (1 + c) s in
    let d = length-drop (1 + c) s in
    let i = sections_written k t (omega arith) in
    let e : 1 + c - 1 ≡ c = omega arith in
    let l : length (take c (drop 1 s)) ≡ c = length-take-le c (drop 1 s) (rw length-drop (omega arith)) in
    take-add (1 + c) (end_from k t) s
    ∙ ap (λ (a : List ℕ). a ++ take (end_from k t) t) (head_of s c (omega arith))
    ∙ ap (λ (a : List ℕ). c ∷ (take c (drop 1 s) ++ a)) i
    ∙ ap (λ (n : ℕ). n ∷ (take c (drop 1 s) ++ written (slots_from k t))) (sym l)
    ∙ ap (λ (n : ℕ). length (take n (drop 1 s)) ∷ (take n (drop 1 s) ++ written (slots_from k t))) (sym e)

-- "The one writing": sectioned words are the writing of the contents that they hold
pub rewritten : (s : List ℕ) → Sections slot_count s → writing (length s) (slots_of s) ≡ s
unfolding writing slots_of
rewritten s h =
    let n : ℕ = end_from slot_count s in
    let w : List ℕ = written (slots_from slot_count s) in
    let f : take n s ≡ w = sections_written slot_count s h.within in
    let l : length w ≡ n = sym (ap length f) ∙ length-take-le n s h.within in
    ap (λ (j : ℕ). w ++ replicate (length s - j) 0) l
    ∙ ap (λ (a : List ℕ). a ++ replicate (length s - n) 0) (sym f)
    ∙ ap (λ (a : List ℕ). take n s ++ a) (sym h.zeros)
    ∙ take-append-drop n s
