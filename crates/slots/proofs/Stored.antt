-- Valid stores: what a slot of one holds, the store with other contents in one slot, and the fresh store.
use Prim.Native.Nat.{ℕ, zero, suc, ◌+◌, ◌-◌, ◌≤◌, ◌<◌}
use native.Mathlib.Omega.{arith}
use mathlib.Core.Path.{◌≡◌, refl, sym, ap, ◌∙◌}
use mathlib.Core.Bool.{true}
use mathlib.Core.List.{List, [], ◌∷◌, ◌++◌}
use lib.ListN.{length, set, get_or, replicate, length-set, length-replicate, get_or-replicate, replicate-append-replicate}
use Rattle.limits.specs.Limits.{slot_count, max_store_words}
use Rattle.slots.specs.Sections.{Slots, written, writing, end_from, slots_of, slot_at, count_at}
use Rattle.slots.specs.Valid.{contents_valid, store_valid}
use Rattle.slots.specs.Facts.{Held, Store}
use Rattle.slots.proofs.Sections.{slot_count_lem}
use Rattle.slots.proofs.Facts.{empty_valid, held_facts}
use Rattle.slots.proofs.ReadBack.{writing_valid}
use Rattle.slots.proofs.Slot.{slot_length, written_room}

-- a slot whose count is not 0 holds a matrix of that size
pub slot_held_lem : (s : List ℕ) (k : ℕ) → Store s → k < slot_count → (count_at s k ≡ 0 → ⊥) → Held (slot_at s k)
slot_held_lem s k h l c =
    held_facts (slot_at s k) (h.contents k l) (λ e. c (sym (slot_length s k h.sections l) ∙ e))

-- ---- other contents in one slot

-- contents stay valid where x is
set_valid : (w : Slots) (k j : ℕ) (x : List ℕ) → contents_valid x ≡ true → contents_valid (get_or w j []) ≡ true
    → contents_valid (get_or (set w k x) j []) ≡ true
set_valid [] k j x v h = h
set_valid (y ∷ w) zero zero x v h = v
set_valid (y ∷ w) zero (suc j) x v h = h
set_valid (y ∷ w) (suc k) zero x v h = h
set_valid (y ∷ w) (suc k) (suc j) x v h = set_valid w k j x v h

-- "Any write that fits is allowed": it leaves a store
pub changed_valid : (s : List ℕ) (k : ℕ) (x : List ℕ) → Store s → k < slot_count → contents_valid x ≡ true
    → end_from slot_count s - count_at s k + length x ≤ length s
    → store_valid (writing (length s) (set (slots_of s) k x)) ≡ true
changed_valid s k x h l v r =
    let w = written_room s k h.sections l x in
    writing_valid (length s) (set (slots_of s) k x) (length-set (slots_of s) k x ∙ slot_count_lem s) (omega arith)
    h.least h.most (λ j i. set_valid (slots_of s) k j x v (h.contents j i))

-- ---- the fresh store

-- empty slots have their counts only
empty_written : (k : ℕ) → written (replicate k []) ≡ replicate k 0
empty_written zero = refl
empty_written (suc k) = ap (λ (s : List ℕ). 0 ∷ s) (empty_written k)

-- "All zeros is the fresh shelf.": all its slots are empty
pub fresh_writing : (n : ℕ) → slot_count ≤ n → writing n (replicate slot_count []) ≡ replicate n 0
unfolding writing
fresh_writing n h =
    let e : slot_count + (n - slot_count) ≡ n = omega arith in
    ap (λ (s : List ℕ). s ++ replicate (n - length s) 0) (empty_written slot_count)
    ∙ ap (λ (i : ℕ). replicate slot_count 0 ++ replicate (n - i) 0) (length-replicate {A = ℕ} slot_count 0)
    ∙ replicate-append-replicate slot_count (n - slot_count) 0
    ∙ ap (λ (i : ℕ). replicate i 0) e

pub fresh_valid : (n : ℕ) → slot_count ≤ n → n ≤ max_store_words → store_valid (replicate n 0) ≡ true
fresh_valid n l h =
    let w = ap length (empty_written slot_count) ∙ length-replicate {A = ℕ} slot_count 0 in
    sym (ap store_valid (fresh_writing n l))
    ∙ writing_valid n (replicate slot_count []) (length-replicate {A = List ℕ} slot_count []) (omega arith) l h
    (λ k i. empty_valid _ (ap length (get_or-replicate slot_count k [] [] i)))
