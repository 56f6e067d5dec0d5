-- Other words in one slot of a store: the part that is lent to write them, and a further resizing of that slot.
use Prim.Native.Nat.{ℕ, ◌+◌, ◌-◌, ◌≤◌, ◌<◌}
use native.Mathlib.Omega.{arith}
use mathlib.Core.Path.{◌≡◌, refl, sym, ap, ◌∙◌}
use mathlib.Core.List.{List, []}
use lib.ListN.{length, take, set, get_or, length-set}
use lib.Seq.{get_or-set_same, set-get_or, set-set}
use borrow.Rule.Slice.PartMut.{put_mid}
use Rattle.limits.specs.Limits.{slot_count, max_store_words}
use Rattle.words.specs.Words.{part}
use Rattle.slots.specs.Sections.{Slots, written, writing, end_from, slots_of, slot_at, count_at}
use Rattle.slots.specs.Facts.{Sections, Fits}
use Rattle.slots.specs.Room.{slot_put, resized}
use Rattle.slots.proofs.Sections.{slot_count_lem, end_rises, rewritten}
use Rattle.slots.proofs.ReadBack.{writing_end, writing_slots, writing_length, writing_sections}
use Rattle.slots.proofs.Slot.{section_start, slot_length, written_room}
use Rattle.slots.proofs.Placed.{lent, placed}
use Rattle.slots.proofs.Resized.{new_shrunk}

-- the words of a slot that fits are within the store
pub fits_inside : {s : List ℕ} {k end size : ℕ} → Fits s k end size → (a : ℕ) → a ≡ end_from k s
    → a + 1 + size ≤ length s
fits_inside {s} {k} f a e =
    let r = end_rises k slot_count s f.slot in
    let i = f.ends in
    omega (arith, f.room)

module _ {s : List ℕ} {k : ℕ} (h : Sections slot_count s) (l : k < slot_count) where
  -- with what slot k holds, they are as before
  pub put_same : s ≡ slot_put s k (slot_at s k)
  put_same = sym (ap (writing (length s)) (set-get_or (slots_of s) k []) ∙ rewritten s h)

  -- slot k is there
  inside : k < length (slots_of s)
  inside = let c = slot_count_lem s in omega arith

  module _ (a : ℕ) (p : a ≡ end_from k s + 1) (y u : List ℕ) (v : u ≡ slot_put s k y) where
    -- where it starts
    from : a ≡ length (written (take k (slots_of s))) + 1
    from = p ∙ ap (λ (n : ℕ). n + 1) (section_start s k h l)

    -- the part that is lent
    pub part_lent : (e : ℕ) → e ≡ a + length y → part a e u ≡ y
    part_lent e q = lent (length s) (slots_of s) k a e y u inside from q v

    -- and the words when it is back
    pub part_back : (e : ℕ) (x : List ℕ) → e ≡ a + length y → length x ≡ length y
        → put_mid a (e - a) u x ≡ slot_put s k x
    part_back e x q m = placed (length s) (slots_of s) k a e x y u inside from (omega arith) m v

-- slot k of a store with y in it, resized again
module _ {s : List ℕ} {k : ℕ} (h : Sections slot_count s) (l : k < slot_count) (most : length s ≤ max_store_words)
    (y u : List ℕ) (v : u ≡ slot_put s k y) (r : end_from slot_count s - count_at s k + length y ≤ length s) where
  -- what the slots hold, and that there is room for it
  abbrev w : Slots
  w = set (slots_of s) k y

  count : length w ≡ slot_count
  count = length-set (slots_of s) k y ∙ slot_count_lem s

  fitting : length (written w) ≤ length s
  fitting = let e = written_room s k h l y in omega arith

  -- so u is sectioned, and holds y in slot k
  put_slots : slots_of u ≡ w
  put_slots = ap slots_of v ∙ writing_slots (length s) w count

  put_long : length u ≡ length s
  put_long = ap length v ∙ writing_length (length s) w count fitting

  put_sections : Sections slot_count u
  put_sections = rw v (writing_sections (length s) w count fitting)

  put_end : end_from slot_count u ≡ end_from slot_count s - count_at s k + length y
  put_end = ap (end_from slot_count) v ∙ writing_end (length s) w count ∙ written_room s k h l y

  put_slot : slot_at u k ≡ y
  put_slot =
      let c = slot_count_lem s in
      ap (λ (w : Slots). get_or w k []) put_slots ∙ get_or-set_same (slots_of s) k y [] (omega arith)

  put_count : count_at u k ≡ length y
  put_count = sym (slot_length u k put_sections l) ∙ ap length put_slot

  module _ (end size : ℕ) (e : end ≡ end_from slot_count s - count_at s k + length y) (d : size ≤ length y) where
    -- a smaller count fits
    pub smaller_fits : Fits u k end size
    smaller_fits =
        let a = put_long in
        let b = put_end in
        let c = put_count in
        record {
          sections = put_sections;
          most = omega arith;
          slot = l;
          ends = omega arith;
          room = omega arith;
        }

    -- and leaves the front of y
    pub smaller_words : resized u k size ≡ slot_put s k (take size y)
    smaller_words =
        let c = put_count in
        let f = smaller_fits in
        let t : part (end_from k u + 1) (end_from k u + 1 + size) u ≡ take size y =
        new_shrunk u k end size (end_from k u) f refl (omega arith) ∙ ap (take size) put_slot in
        ap (λ (n : ℕ). writing n (set (slots_of u) k (part (end_from k u + 1) (end_from k u + 1 + size) u))) put_long
        ∙ ap (λ (z : List ℕ). writing (length s) (set (slots_of u) k z)) t
        ∙ ap (λ (z : Slots). writing (length s) (set z k (take size y))) put_slots
        ∙ ap (writing (length s)) (set-set (slots_of s) k y (take size y))
