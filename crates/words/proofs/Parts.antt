-- Laws of `part a e s`, the words of s from a up to, and not including, e.
use Prim.Native.Nat.{ℕ, suc, ◌+◌, ◌-◌, ◌≤◌, ◌<◌}
use native.Mathlib.Omega.{arith}
use native.Mathlib.Nat.{sub_self}
use native.Mathlib.Numerals.{add-one}
use mathlib.Core.Path.{◌≡◌, ◌∙◌}
use mathlib.Core.List.{List, [], ◌∷◌, ◌++◌}
use lib.ListN.{length, take, drop, length-take, length-drop}
use lib.Seq.{
  drop-cons,
  take-add,
  drop-drop,
  get_or-take,
  get_or-drop,
  drop-append-add,
  drop-append-le,
  drop_at,
  take_at,
  take-append-le,
}
use Rattle.words.specs.Words.{at, part}

-- a part without words
pub part_empty : (a : ℕ) (s : List ℕ) → part a a s ≡ []
part_empty a s = rw (sub_self a)

-- how long a part is
pub length_part : (a e : ℕ) (s : List ℕ) → e ≤ length s → length (part a e s) ≡ e - a
length_part a e s h = simp (length-take, length-drop) (omega arith)

-- a part, its first word taken off
pub part_cons : (a e : ℕ) (s : List ℕ) → a < e → e ≤ length s → part a e s ≡ at s a ∷ part (a + 1) e s
part_cons a e s h k =
    let l : a < length s = omega arith in
    let q : e - a ≡ suc (e - (a + 1)) = omega arith in
    rw (q, drop-cons s a 0 l, ← (add-one a))

-- two parts that meet
pub part_append : (a b e : ℕ) (s : List ℕ) → a ≤ b → b ≤ e → part a e s ≡ part a b s ++ part b e s
part_append a b e s h k =
    let q : e - a ≡ (b - a) + (e - b) = omega arith in
    let r : a + (b - a) ≡ b = omega arith in
    rw q (take-add (b - a) (e - b) (drop a s) ∙ rw (drop-drop (b - a) a s, r))

-- a word of a part
pub part_at : (a e i : ℕ) (s : List ℕ) → i < e - a → at (part a e s) i ≡ at s (a + i)
part_at a e i s h = rw (get_or-take, get_or-drop)

-- a part from the front
pub part_front : (e : ℕ) (s : List ℕ) → part 0 e s ≡ take e s
part_front e s = let q : e - 0 ≡ e = omega arith in rw q

-- a part that lies past the first of two lists
pub part_past : (p q : List ℕ) (k a e : ℕ) → length p ≡ k → part (k + a) (k + e) (p ++ q) ≡ part a e q
part_past p q k a e h =
    let m : (k + e) - (k + a) ≡ e - a = omega arith in
    rw (m, ← h, drop-append-add p q a)

-- a part that lies within the first of two lists
pub part_within : (p q : List ℕ) (a e : ℕ) → a ≤ e → e ≤ length p → part a e (p ++ q) ≡ part a e p
part_within p q a e h k =
    let m : e - a ≤ length (drop a p) = simp length-drop (omega arith) in
    rw (drop-append-le a p q (omega arith), take-append-le (e - a) (drop a p) q m)

-- the part that is the middle one of three lists
pub part_middle : (p b q : List ℕ) (a e : ℕ) → length p ≡ a → a + length b ≡ e → part a e (p ++ (b ++ q)) ≡ b
part_middle p b q a e h k =
    let m : length b ≡ e - a = omega arith in
    rw (drop_at p (b ++ q) a h, take_at b q (e - a) m)
