-- `resize`: the tail from a slot's section on, which is lent to `make_room`, and the store's words when it is back.
use Prim.Native.Nat.{ℕ, ◌+◌, ◌-◌, ◌≤◌}
use native.Mathlib.Omega.{arith}
use native.Mathlib.Nat.{add-zero}
use mathlib.Core.Path.{◌≡◌, refl, sym, ap, ◌∙◌}
use mathlib.Core.List.{List, ◌∷◌, ◌++◌, append_assoc, append-nil}
use lib.ListN.{length, take, drop, set, replicate, length-append, length-drop}
use lib.Seq.{take_all, take-take, drop-drop, drop-length, get_or-drop, take_at}
use borrow.Rule.Slice.PartMut.{put_mid, mid_of, Post-is}
use Rattle.limits.specs.Limits.{slot_count}
use Rattle.words.specs.Words.{at, part}
use Rattle.words.proofs.Parts.{length_part, part_append, part_middle}
use Rattle.slots.specs.Sections.{written, writing, end_from, slots_of, slot_at, count_at}
use Rattle.slots.specs.Facts.{Fits}
use Rattle.slots.specs.Room.{resized, Room, room_made}
use Rattle.slots.proofs.Written.{section_between, written_set}
use Rattle.slots.proofs.Sections.{tail_part, slot_words, slot_count_lem, Section, section_at}
use Rattle.slots.proofs.Slot.{sections_before, sections_after, section_start, slot_length}
use Rattle.slots.proofs.Slot.{sections_length, slot_around, written_room}

-- the words that are left over, counted from the tail's start and from the front
left_over : (n a end c size w : ℕ) → a + 1 + c ≤ end → w ≡ end - c + size → n - a - (end - a - c + size) ≡ n - w
left_over n a end c size w h e =
    let m : w ≡ a + (end - a - c + size) = omega arith in
    go n a (end - a - c + size) w m
  where
    go : (n a m w : ℕ) → w ≡ a + m → n - a - m ≡ n - w
    go n a m w e = omega arith

module _ (s : List ℕ) (k end size a : ℕ) (f : Fits s k end size) (e : a ≡ end_from k s) where
  -- what is known of the section that is found, and of the tail that starts there
  pub found : Section s a k
  found = section_at s a k f.sections.within f.slot e

  record Tail : Type 0 where
    pub count : at (drop a s) 0 ≡ count_at s k
    pub first : a + 1 + count_at s k ≤ end
    pub inside : end ≤ length s
    pub long : length (drop a s) ≡ length s - a

  tail : Tail
  tail =
      let g = found in
      let c : at s a ≡ count_at s k = ap (at s) e in
      let i = f.ends in
      record {
        count = get_or-drop a s 0 0 ∙ ap (at s) (add-zero a ∙ e);
        first = omega arith;
        inside = omega arith;
        long = length-drop a s;
      }

  tail_is : mid_of a (length s - a) s ≡ drop a s
  tail_is = let g = tail in take_all (length s - a) (drop a s) (omega arith)

  -- what `make_room` requires
  pub tail_room : Room (mid_of a (length s - a) s) (end - a) size
  tail_room =
      let g = tail in
      let i = f.ends in
      let r = f.room in
      let q : a + (end - a) ≡ end_from slot_count s = omega arith in
      let n : length s - end_from slot_count s ≡ length (drop a s) - (end - a) = omega arith in
      rw tail_is (record {
        first = omega arith;
        inside = omega arith;
        room = omega arith;
        zeros =
            drop-drop (end - a) a s ∙ ap (λ (j : ℕ). drop j s) q ∙ f.sections.zeros
            ∙ ap (λ (j : ℕ). replicate j 0) n;
        most = omega (arith, f.most);
      })

  -- the slot's words afterwards, and how many they are
  abbrev new : List ℕ
  new = part (end_from k s + 1) (end_from k s + 1 + size) s

  pub new_length : length new ≡ size
  new_length =
      let g = tail in
      let r = f.room in
      length_part (end_from k s + 1) (end_from k s + 1 + size) s (omega arith) ∙ omega arith

  -- by what the slot holds: all of it and what follows, or the front of it
  pub new_grown : count_at s k ≤ size
      → new ≡ slot_at s k ++ part (end_from k s + 1 + count_at s k) (end_from k s + 1 + size) s
  new_grown h =
      part_append (end_from k s + 1) (end_from k s + 1 + count_at s k) (end_from k s + 1 + size) s (omega arith) (omega arith)
      ∙ ap (λ (x : List ℕ). x ++ part (end_from k s + 1 + count_at s k) (end_from k s + 1 + size) s)
      (sym (slot_words s (end_from k s) k f.slot refl))

  pub new_shrunk : size ≤ count_at s k → new ≡ take size (slot_at s k)
  new_shrunk h =
      let d : List ℕ = drop (end_from k s + 1) s in
      let p : end_from k s + 1 + size - (end_from k s + 1) ≡ size = omega arith in
      let q : end_from k s + 1 + count_at s k - (end_from k s + 1) ≡ count_at s k = omega arith in
      ap (λ (j : ℕ). take j d) p ∙ sym (take-take size (count_at s k) d h)
      ∙ ap (λ (j : ℕ). take size (take j d)) (sym q)
      ∙ ap (take size) (sym (slot_words s (end_from k s) k f.slot refl))

  -- the three parts of what `make_room` leaves, by what they are in the store
  tail_front : part 1 (1 + size) (drop a s) ≡ new
  tail_front =
      let q : a + 1 ≡ end_from k s + 1 = omega arith in
      let r : a + (1 + size) ≡ end_from k s + 1 + size = omega arith in
      tail_part s a 1 (1 + size) ∙ rw (q, r)

  tail_later : part (1 + at (drop a s) 0) (end - a) (drop a s) ≡ sections_after s k
  tail_later =
      let g = tail in
      let i = f.ends in
      let h = f.sections in
      let l = f.slot in
      let n = slot_length s k h l in
      let m = sections_length s k h l in
      let b = section_start s k h l in
      let p : List ℕ = sections_before s k ++ (length (slot_at s k) ∷ slot_at s k) in
      let z : List ℕ = replicate (length s - end_from slot_count s) 0 in
      let c = length-append (sections_before s k) (length (slot_at s k) ∷ slot_at s k) in
      let from : ℕ = a + (1 + at (drop a s) 0) in
      let to : ℕ = a + (end - a) in
      tail_part s a (1 + at (drop a s) 0) (end - a) ∙ ap (part from to) (slot_around s k h l)
      ∙ part_middle p (sections_after s k) z from to (omega arith) (omega arith)

  tail_free : length (drop a s) - (end - a - at (drop a s) 0 + size)
      ≡ length s - length (written (set (slots_of s) k new))
  tail_free =
      let g = tail in
      let i = f.ends in
      let n = new_length in
      let w = written_room s k f.sections f.slot new in
      ap (λ (j : ℕ). j - (end - a - at (drop a s) 0 + size)) g.long
      ∙ left_over (length s) a end (at (drop a s) 0) size _ (omega arith) (omega arith)

  -- the words before the tail
  before_tail : take a s ≡ sections_before s k
  before_tail =
      let h = f.sections in
      let l = f.slot in
      let b = sections_before s k in
      ap (take a) (slot_around s k h l ∙ append_assoc b (length (slot_at s k) ∷ slot_at s k) _)
      ∙ take_at b _ a (sym (section_start s k h l) ∙ sym e)

  -- the words after the call
  pub resized_words : (ys : List ℕ) → ys ≡ room_made (mid_of a (length s - a) s) (end - a) size
      → put_mid a (length s - a) s ys ≡ resized s k size
  unfolding writing room_made
  resized_words ys q =
      let g = tail in
      let b = sections_before s k in
      let r = sections_after s k in
      let z : List ℕ = replicate (length s - length (written (set (slots_of s) k new))) 0 in
      let c = slot_count_lem s in
      let l = f.slot in
      ap (λ (y : List ℕ). take a s ++ (ys ++ y)) (Post-is a (length s) s (omega arith) ∙ drop-length s)
      ∙ ap (λ (y : List ℕ). take a s ++ y) (append-nil ys ∙ q)
      ∙ ap (λ (y : List ℕ). take a s ++ room_made y (end - a) size) tail_is
      ∙ rw (before_tail, tail_front, tail_later, tail_free)
      (ap (λ (n : ℕ). b ++ (n ∷ (new ++ (r ++ z)))) (sym new_length)
      ∙ sym (section_between b new r z (length new))
      ∙ ap (λ (y : List ℕ). y ++ z) (sym (written_set (slots_of s) k new (omega arith))))
