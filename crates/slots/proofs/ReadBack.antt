-- The writing of contents, read: it is sectioned and holds them. So a crate above may think of contents alone.
use Prim.Native.Nat.{ℕ, zero, suc, ◌+◌, ◌-◌, ◌≤◌, ◌<◌}
use native.Mathlib.Omega.{arith}
use mathlib.Core.Path.{◌≡◌, refl, sym, ap, ◌∙◌}
use mathlib.Core.Bool.{true}
use mathlib.Core.List.{List, [], ◌∷◌, ◌++◌, append_assoc}
use lib.ListN.{length, take, drop, get_or, replicate, length-append, length-replicate}
use lib.Seq.{take-append_seam, drop-append_seam, drop_at, take-length}
use Rattle.limits.specs.Limits.{slot_count, max_store_words}
use Rattle.slots.specs.Sections.{Slots, written, writing, end_from, slots_from, slots_of, sectioned}
use Rattle.slots.specs.Valid.{contents_valid, store_valid}
use Rattle.slots.specs.Facts.{Sections}
use Rattle.slots.proofs.Facts.{sections_made, store_made}

-- the words after the first section, and those in it
past : (x r z : List ℕ) → drop (1 + length x) (length x ∷ (x ++ r) ++ z) ≡ r ++ z
past x r z =
    let e : 1 + length x ≡ suc (length x) = omega arith in
    rw (e, append_assoc) (drop-append_seam x (r ++ z))

inside : (x r z : List ℕ) → take (1 + length x - 1) (drop 1 (length x ∷ (x ++ r) ++ z)) ≡ x
inside x r z =
    let e : 1 + length x - 1 ≡ length x = omega arith in
    rw (e, append_assoc) (take-append_seam x (r ++ z))

-- where section k starts in the words of sections
end_read : (w : Slots) (k : ℕ) (z : List ℕ) → k ≤ length w → end_from k (written w ++ z) ≡ length (written (take k w))
unfolding end_from
end_read w zero z h = refl
end_read [] (suc k) z h = let z : ⊥ = omega arith in absurd z
end_read (x ∷ w) (suc k) z h =
    let p = ap (λ (t : List ℕ). end_from k t) (past x (written w) z) in
    let i = end_read w k z (omega arith) in
    let l = length-append x (written (take k w)) in
    omega arith

-- what the sections hold
slots_read : (w : Slots) (z : List ℕ) → slots_from (length w) (written w ++ z) ≡ w
unfolding slots_from
slots_read [] z = refl
slots_read (x ∷ w) z =
    ap (λ (t : List ℕ). t ∷ slots_from (length w) (drop (1 + length x) (length x ∷ (x ++ written w) ++ z)))
    (inside x (written w) z)
    ∙ ap (λ (t : List ℕ). x ∷ slots_from (length w) t) (past x (written w) z)
    ∙ ap (λ (v : Slots). x ∷ v) (slots_read w z)

module _ (n : ℕ) (w : Slots) (c : length w ≡ slot_count) where
  -- where section k starts
  pub writing_start : (k : ℕ) → k ≤ slot_count → end_from k (writing n w) ≡ length (written (take k w))
  unfolding writing
  writing_start k h = end_read w k (replicate (n - length (written w)) 0) (omega arith)

  pub writing_end : end_from slot_count (writing n w) ≡ length (written w)
  writing_end =
      writing_start slot_count (omega arith)
      ∙ ap (λ (k : ℕ). length (written (take k w))) (sym c) ∙ ap (λ (v : Slots). length (written v)) (take-length w)

  pub writing_slots : slots_of (writing n w) ≡ w
  unfolding writing slots_of
  writing_slots =
      sym (ap (λ (k : ℕ). slots_from k (written w ++ replicate (n - length (written w)) 0)) c)
      ∙ slots_read w (replicate (n - length (written w)) 0)

  module _ (h : length (written w) ≤ n) where
    pub writing_length : length (writing n w) ≡ n
    unfolding writing
    writing_length =
        let l = length-append (written w) (replicate (n - length (written w)) 0) in
        let r = length-replicate {A = ℕ} (n - length (written w)) 0 in
        omega arith

    pub writing_sections : Sections slot_count (writing n w)
    unfolding writing
    writing_sections =
        let e = writing_end in
        let l = writing_length in
        let z : List ℕ = replicate (n - length (written w)) 0 in
        let q : n - length (written w) ≡ length (writing n w) - end_from slot_count (writing n w) = omega arith in
        record {
          within = omega arith;
          zeros = drop_at (written w) z (end_from slot_count (writing n w)) (sym e) ∙ ap (λ (i : ℕ). replicate i 0) q;
        }

    pub writing_sectioned : sectioned slot_count (writing n w) ≡ true
    writing_sectioned = sections_made slot_count (writing n w) writing_sections

    -- a store, if every contents is valid
    pub writing_valid : slot_count ≤ n → n ≤ max_store_words
        → ((k : ℕ) → k < slot_count → contents_valid (get_or w k []) ≡ true) → store_valid (writing n w) ≡ true
    writing_valid a b v =
        let l = writing_length in
        store_made (writing n w) (record {
          least = omega arith;
          most = omega arith;
          sections = writing_sections;
          contents = λ k i. ap (λ (u : Slots). contents_valid (get_or u k [])) writing_slots ∙ v k i;
        })
