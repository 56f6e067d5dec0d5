-- `make_room`: the words from one section onward, with another count for that section. The later sections stay, grow
-- away from it or close up to it, and zeros follow them.
use Prim.Native.Nat.{ℕ, zero, suc, ◌+◌, ◌-◌, ◌≤◌, ◌<◌}
use native.Mathlib.Omega.{arith}
use mathlib.Core.Path.{◌≡◌, refl, sym, ap, ◌∙◌}
use mathlib.Core.List.{List, [], ◌∷◌, ◌++◌, append_assoc}
use lib.ListN.{length, take, drop, set, replicate, length-append, length-drop, length-set, take-append-drop}
use lib.ListN.{replicate-append-replicate}
use lib.Seq.{drop-drop, take_at, drop-append-add, drop-set-lt}
use borrow.Rule.Slice.PartMut.{put_mid, Post-is}
use Rattle.words.specs.Words.{at, part, overwrite}
use Rattle.words.proofs.Parts.{length_part}
use Rattle.slots.specs.Room.{Room, room_made}
use Rattle.slots.proofs.Sections.{head_of}

-- zeros from which some are dropped, and zeros side by side
drop_replicate : (d n v : ℕ) → drop d (replicate n v) ≡ replicate (n - d) v
drop_replicate zero n v = let e : n - 0 ≡ n = omega arith in rw e
drop_replicate (suc d) zero v = let e : 0 - suc d ≡ 0 = omega arith in rw e
drop_replicate (suc d) (suc n) v = let e : suc n - suc d ≡ n - d = omega arith in rw e (drop_replicate d n v)

zeros_join : (m n k : ℕ) → m + n ≡ k → ◌++◌ {A = ℕ} (replicate m 0) (replicate n 0) ≡ replicate k 0
zeros_join m n k e = replicate-append-replicate m n 0 ∙ ap (λ (j : ℕ). replicate j 0) e

-- zeros that follow a place follow every later one
zeros_past : (t : List ℕ) (e k : ℕ) → e ≤ k → drop e t ≡ replicate (length t - e) 0
    → drop k t ≡ replicate (length t - k) 0
zeros_past t e k h z =
    let q : k ≡ e + (k - e) = omega arith in
    let g : length t - e - (k - e) ≡ length t - k = omega arith in
    ap (λ (j : ℕ). drop j t) q ∙ sym (drop-drop (k - e) e t) ∙ ap (drop (k - e)) z
    ∙ drop_replicate (k - e) (length t - e) 0 ∙ ap (λ (j : ℕ). replicate j 0) g

module _ (t : List ℕ) (end size : ℕ) (f : Room t end size) where
  -- how many words the later sections have, and where they end afterwards, as the code computes it
  abbrev later : ℕ
  later = end - (1 + at t 0)

  abbrev free : ℕ
  free = 1 + size + later

  -- all words up to the end of the sections afterwards
  front : List ℕ
  front = size ∷ (part 1 (1 + size) t ++ part (1 + at t 0) end t)

  front_length : length front ≡ free
  unfolding front
  front_length =
      let i = f.inside in
      let b = f.first in
      let r = f.room in
      let p = length_part 1 (1 + size) t (omega arith) in
      let q = length_part (1 + at t 0) end t f.inside in
      let l = length-append (part 1 (1 + size) t) (part (1 + at t 0) end t) in
      omega arith

  -- what is to be reached
  made : front ++ replicate (length t - free) 0 ≡ room_made t end size
  unfolding front room_made
  made =
      let b = f.first in
      let k : free ≡ end - at t 0 + size = omega arith in
      ap (λ (j : ℕ). front ++ replicate (length t - j) 0) k
      ∙ ap (λ (l : List ℕ). size ∷ l) (append_assoc (part 1 (1 + size) t) (part (1 + at t 0) end t) _)

  -- the first words after the count is written
  counted : take (1 + size) (set t 0 size) ≡ size ∷ part 1 (1 + size) t
  counted =
      let b = f.first in
      let i = f.inside in
      let l = length-set t 0 size in
      let e : size ≡ 1 + size - 1 = omega arith in
      let h : at (set t 0 size) 0 ≡ size = first t (omega arith) in
      head_of (set t 0 size) size (omega arith)
      ∙ ap (λ (v : ℕ). v ∷ take size (drop 1 (set t 0 size))) h
      ∙ ap (λ (l : List ℕ). size ∷ take size l) (drop-set-lt 1 t 0 size (omega arith))
      ∙ ap (λ (j : ℕ). size ∷ take j (drop 1 t)) e
    where
      first : (t : List ℕ) → 0 < length t → at (set t 0 size) 0 ≡ size
      first [] h = let z : ⊥ = omega arith in absurd z
      first (x ∷ t) h = refl

  module _ (v : List ℕ)
      (e : v ≡ overwrite (1 + size) (part (1 + at t 0) (1 + at t 0 + later) (set t 0 size)) (set t 0 size)) where
    -- the later sections moved: what stands behind them is as it was
    moved : v ≡ front ++ drop free t
    unfolding overwrite front
    moved =
        let b = f.first in
        let i = f.inside in
        let q : 1 + at t 0 + later ≡ end = omega arith in
        let x : List ℕ = part (1 + at t 0) end t in
        let p = ap (take later) (drop-set-lt (1 + at t 0) t 0 size (omega arith)) in
        let l : length x ≡ later = length_part (1 + at t 0) end t i in
        e
        ∙ ap (λ (j : ℕ). overwrite (1 + size) (part (1 + at t 0) j (set t 0 size)) (set t 0 size)) q
        ∙ ap (λ (y : List ℕ). take (1 + size) (set t 0 size) ++ y ++ drop (1 + size + length y) (set t 0 size)) p
        ∙ ap (λ (y : List ℕ). y ++ x ++ drop (1 + size + length x) (set t 0 size)) counted
        ∙ ap (λ (j : ℕ). front ++ drop (1 + size + j) (set t 0 size)) l
        ∙ ap (λ (y : List ℕ). front ++ y) (drop-set-lt free t 0 size (omega arith))

    -- a larger section: zeros are left behind the later ones
    pub grown : at t 0 ≤ size → v ≡ room_made t end size
    grown h =
        let b = f.first in
        moved
        ∙ ap (λ (y : List ℕ). front ++ y) (zeros_past t end free (omega arith) f.zeros)
        ∙ made

    -- the length is kept
    moved_length : length v ≡ length t
    moved_length =
        let b = f.first in
        let r = f.room in
        let l = front_length in
        let d = length-drop free t in
        let a = length-append front (drop free t) in
        ap length moved ∙ omega arith

    -- past the old end nothing has changed
    moved_zeros : free ≤ end → drop end v ≡ replicate (length t - end) 0
    moved_zeros h =
        let l = front_length in
        let g : end ≡ length front + (end - free) = omega arith in
        let k : free + (end - free) ≡ end = omega arith in
        ap (drop end) moved ∙ ap (λ (j : ℕ). drop j (front ++ drop free t)) g
        ∙ drop-append-add front (drop free t) (end - free)
        ∙ drop-drop (end - free) free t ∙ ap (λ (j : ℕ). drop j t) k ∙ f.zeros

    -- a smaller section: the words between the new end and the old one are cleared
    pub shrunk : (ys : List ℕ) → size ≤ at t 0 → ys ≡ replicate (length (part free end v)) 0
        → put_mid free (end - free) v ys ≡ room_made t end size
    shrunk ys h q =
        let b = f.first in
        let i = f.inside in
        let l : free ≤ end = omega arith in
        let n : length (part free end v) ≡ end - free = length_part free end v (omega (arith, moved_length)) in
        let z : List ℕ = replicate (length t - end) 0 in
        ap (λ (y : List ℕ). take free v ++ (ys ++ y)) {y = z} (Post-is free end v l ∙ moved_zeros l)
        ∙ ap (λ (y : List ℕ). take free v ++ (y ++ z)) {y = replicate (end - free) 0}
        (q ∙ ap (λ (j : ℕ). replicate j 0) n)
        ∙ ap (λ (y : List ℕ). y ++ (replicate (end - free) 0 ++ z)) {y = front}
        (ap (take free) moved ∙ take_at front (drop free t) free front_length)
        ∙ ap (λ (y : List ℕ). front ++ y) (zeros_join (end - free) (length t - end) (length t - free) (omega arith))
        ∙ made

  -- the same count: nothing is moved
  pub unmoved : size ≡ at t 0 → t ≡ room_made t end size
  unfolding front
  unmoved h =
      let b = f.first in
      let i = f.inside in
      let n : free ≡ end = omega arith in
      let k : 1 + at t 0 + later ≡ end = omega arith in
      let e : size ≡ 1 + size - 1 = omega arith in
      let s : 1 + size ≡ 1 + at t 0 = omega arith in
      sym (take-append-drop (1 + size) t)
      ∙ ap (λ (y : List ℕ). y ++ drop (1 + size) t) (head_of t size (omega arith))
      ∙ ap (λ (j : ℕ). j ∷ take size (drop 1 t) ++ drop (1 + size) t) (sym h)
      ∙ ap (λ (j : ℕ). size ∷ take j (drop 1 t) ++ drop (1 + size) t) e
      ∙ ap (λ (j : ℕ). size ∷ part 1 (1 + size) t ++ drop j t) s
      ∙ ap (λ (y : List ℕ). size ∷ part 1 (1 + size) t ++ y)
      (sym (take-append-drop later (drop (1 + at t 0) t))
      ∙ ap (λ (y : List ℕ). part (1 + at t 0) end t ++ y)
      (drop-drop later (1 + at t 0) t ∙ ap (λ (j : ℕ). drop j t) k ∙ f.zeros))
      ∙ sym (append_assoc (size ∷ part 1 (1 + size) t) (part (1 + at t 0) end t) (replicate (length t - end) 0))
      ∙ ap (λ (j : ℕ). front ++ replicate (length t - j) 0) (sym n)
      ∙ made
