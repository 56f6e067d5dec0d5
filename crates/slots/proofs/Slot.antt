-- One slot of a store and the words around it, and the room that another contents needs.
use Prim.Native.Nat.{ℕ, suc, ◌+◌, ◌-◌, ◌<◌}
use native.Mathlib.Omega.{arith}
use mathlib.Core.Path.{◌≡◌, refl, sym, ap, ◌∙◌}
use mathlib.Core.List.{List, ◌∷◌, ◌++◌, append_assoc}
use lib.ListN.{length, take, drop, set, replicate, length-append, length-set}
use Rattle.limits.specs.Limits.{slot_count}
use Rattle.words.proofs.Parts.{length_part}
use Rattle.slots.specs.Sections.{written, writing, total, end_from, slots_of, slot_at, count_at}
use Rattle.slots.specs.Facts.{Sections}
use Rattle.slots.proofs.Written.{written_split, written_length, total_change}
use Rattle.slots.proofs.Sections.{slot_count_lem, slot_words, rewritten, section_at}
use Rattle.slots.proofs.ReadBack.{writing_start, writing_end}

-- the sections before slot k, and those after it
abbrev pub sections_before : List ℕ → ℕ → List ℕ
sections_before s k = written (take k (slots_of s))

abbrev pub sections_after : List ℕ → ℕ → List ℕ
sections_after s k = written (drop (suc k) (slots_of s))

module _ (s : List ℕ) (k : ℕ) (h : Sections slot_count s) (l : k < slot_count) where
  -- where the section starts
  pub section_start : end_from k s ≡ length (sections_before s k)
  section_start =
      sym (ap (end_from k) (rewritten s h)) ∙ writing_start (length s) (slots_of s) (slot_count_lem s) k (omega arith)

  -- where all sections end
  sections_end : end_from slot_count s ≡ length (written (slots_of s))
  sections_end = sym (ap (end_from slot_count) (rewritten s h)) ∙ writing_end (length s) (slots_of s) (slot_count_lem s)

  -- its count is that of its words
  pub slot_length : length (slot_at s k) ≡ count_at s k
  slot_length =
      let f = section_at s (end_from k s) k h.within l refl in
      let n = length_part (end_from k s + 1) (end_from k s + 1 + count_at s k) s (omega arith) in
      ap length (slot_words s (end_from k s) k l refl) ∙ n ∙ omega arith

  -- the sections before slot k, its own, and those after it
  around : written (slots_of s) ≡ sections_before s k ++ (length (slot_at s k) ∷ (slot_at s k ++ sections_after s k))
  around = written_split (slots_of s) k (let c = slot_count_lem s in omega arith)

  -- the later sections end where all do
  pub sections_length : end_from slot_count s ≡ end_from k s + (1 + count_at s k + length (sections_after s k))
  sections_length =
      let e = sections_end in
      let a = section_start in
      let n = slot_length in
      let p = length-append (sections_before s k) (length (slot_at s k) ∷ (slot_at s k ++ sections_after s k)) in
      let q = length-append (slot_at s k) (sections_after s k) in
      let r = ap length around in
      omega arith

  -- the words: sections before, the section, sections after, zeros
  pub slot_around : s ≡ (sections_before s k ++ (length (slot_at s k) ∷ slot_at s k))
      ++ (sections_after s k ++ replicate (length s - end_from slot_count s) 0)
  unfolding writing
  slot_around =
      let b = sections_before s k in
      let x = slot_at s k in
      let r = sections_after s k in
      let z : List ℕ = replicate (length s - end_from slot_count s) 0 in
      sym (rewritten s h)
      ∙ ap (λ (j : ℕ). written (slots_of s) ++ replicate (length s - j) 0) (sym sections_end)
      ∙ ap (λ (y : List ℕ). y ++ z) (around ∙ sym (append_assoc b (length x ∷ x) r))
      ∙ append_assoc (b ++ (length x ∷ x)) r z

  -- "room is needed for 8 plus the sizes of all sheets as they are after the call": what code compares with the length
  pub room_needed : (x : List ℕ)
      → slot_count + total (set (slots_of s) k x) ≡ end_from slot_count s - count_at s k + length x
  room_needed x =
      let c = slot_count_lem s in
      let t = total_change (slots_of s) k x (omega arith) in
      let w = written_length (slots_of s) in
      let e = sections_end in
      let n = slot_length in
      let m = sections_length in
      omega arith

  -- the same as the length of what is written
  pub written_room : (x : List ℕ)
      → length (written (set (slots_of s) k x)) ≡ end_from slot_count s - count_at s k + length x
  written_room x =
      let c = slot_count_lem s in
      let e = length-set (slots_of s) k x in
      let w = written_length (set (slots_of s) k x) in
      let r = room_needed x in
      omega arith
