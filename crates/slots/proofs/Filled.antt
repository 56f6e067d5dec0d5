-- `put`: a slot's count is changed, and words are copied over what the slot then holds.
use Prim.Native.Nat.{ℕ, ◌+◌, ◌-◌, ◌≤◌, ◌<◌}
use native.Mathlib.Omega.{arith}
use mathlib.Core.Path.{◌≡◌, refl, sym, ap, ◌∙◌}
use mathlib.Core.Bool.{true, false}
use mathlib.Core.List.{List, ◌++◌, append_assoc}
use lib.ListN.{length, take, drop}
use lib.Dec.{leb}
use borrow.Author.Tests.{leb-true}
use borrow.Rule.Slice.PartMut.{put_mid, Post-is}
use Rattle.limits.specs.Limits.{slot_count, max_store_words}
use Rattle.words.specs.Words.{part, overwrite}
use Rattle.words.proofs.Parts.{length_part}
use Rattle.slots.specs.Sections.{end_from, slots_of, count_at}
use Rattle.slots.specs.Facts.{Sections, Fits}
use Rattle.slots.specs.Room.{words_with, Filled, resized}
use Rattle.slots.proofs.Sections.{slot_count_lem, section_at}
use Rattle.slots.proofs.Slot.{section_start}
use Rattle.slots.proofs.Placed.{placed}

-- words copied over others are these with the part put in
over_part : (a : ℕ) (x u : List ℕ) → overwrite a x u ≡ put_mid a (a + length x - a) u x
unfolding overwrite
over_part a x u =
    append_assoc (take a u) x (drop (a + length x) u)
    ∙ ap (λ (z : List ℕ). take a u ++ (x ++ z)) (sym (Post-is a (a + length x) u (omega arith)))

-- a slot of a store whose sections end at `end`, and words for it
pub record Filling (s : List ℕ) (k end : ℕ) : Type 0 where
  pub sections : Sections slot_count s
  pub slot : k < slot_count
  pub ends : end ≡ end_from slot_count s
  pub most : length s ≤ max_store_words

pub filling : {s : List ℕ} {k end : ℕ} → Sections slot_count s → k < slot_count → end ≡ end_from slot_count s
    → length s ≤ max_store_words → Filling s k end
filling a b e m = record { sections = a; slot = b; ends = e; most = m }

module _ {s : List ℕ} {k end : ℕ} (h : Filling s k end) (x : List ℕ) where
  -- the test for room, as the definition and as the code have it
  room_test : leb (end - count_at s k + length x) (length s) ≡ leb (words_with s k (length x)) (length s)
  room_test = ap (λ (e : ℕ). leb (e - count_at s k + length x) (length s)) h.ends

  -- there is no room
  pub filled_not : leb (end - count_at s k + length x) (length s) ≡ false → Filled s k x false s
  filled_not f = record { room_is = sym (sym room_test ∙ f); words_are = refl }

  module _ (f : leb (end - count_at s k + length x) (length s) ≡ true) where
    -- what `resize` requires
    pub resizable : Fits s k end (length x)
    resizable =
        record { sections = h.sections; most = h.most; slot = h.slot; ends = h.ends; room = leb-true _ _ f }

    -- the slot's words are within the store
    pub slot_within : end_from k s + 1 + length x ≤ length s
    slot_within =
        let g = section_at s (end_from k s) k h.sections.within h.slot refl in
        let r : end - count_at s k + length x ≤ length s = leb-true _ _ f in
        let e = h.ends in
        omega arith

    -- words are copied over them
    pub filled : (a : ℕ) (u s' : List ℕ) → a ≡ end_from k s + 1 → u ≡ resized s k (length x) → s' ≡ overwrite a x u
        → Filled s k x true s'
    filled a u s' i v t =
        let y : List ℕ = part (end_from k s + 1) (end_from k s + 1 + length x) s in
        let c = slot_count_lem s in
        let l = h.slot in
        let b = section_start s k h.sections l in
        let r = length_part (end_from k s + 1) (end_from k s + 1 + length x) s slot_within in
        record {
          room_is = sym (sym room_test ∙ f);
          words_are =
              t ∙ over_part a x u
              ∙ placed (length s) (slots_of s) k a (a + length x) x y u (omega arith) (omega arith) refl (omega arith) v;
        }
