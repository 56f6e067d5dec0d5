-- Laws of `written` and `total`, on contents alone: the words around one slot, and what another contents changes.
use Prim.Native.Nat.{ℕ, zero, suc, ◌+◌, ◌-◌, ◌≤◌, ◌<◌}
use native.Mathlib.Omega.{arith}
use mathlib.Core.Path.{◌≡◌, refl, sym, ap, ◌∙◌}
use mathlib.Core.List.{List, [], ◌∷◌, ◌++◌, append_assoc}
use lib.ListN.{length, take, drop, set, get_or, length-append}
use lib.Seq.{split_at, set_split}
use Rattle.slots.specs.Sections.{Slots, written, total}

-- a section of the words x between others, p and r, and what follows them, z
pub section_between : (p x r z : List ℕ) (n : ℕ) → (p ++ (n ∷ (x ++ r))) ++ z ≡ p ++ (n ∷ (x ++ (r ++ z)))
section_between p x r z n =
    append_assoc p (n ∷ (x ++ r)) z ∙ ap (λ (y : List ℕ). p ++ (n ∷ y)) (append_assoc x r z)

-- slots side by side
written_append : (v w : Slots) → written (v ++ w) ≡ written v ++ written w
written_append [] w = refl
written_append (x ∷ v) w =
    ap (λ (a : List ℕ). length x ∷ (x ++ a)) (written_append v w)
    ∙ ap (λ (a : List ℕ). length x ∷ a) (sym (append_assoc x (written v) (written w)))

-- slot k and the words before and after it
pub written_split : (w : Slots) (k : ℕ) → k < length w
    → written w ≡ written (take k w) ++ (length (get_or w k []) ∷ (get_or w k [] ++ written (drop (suc k) w)))
written_split w k h =
    ap written (split_at w k [] h) ∙ written_append (take k w) (get_or w k [] ∷ drop (suc k) w)

-- the same with x in slot k
pub written_set : (w : Slots) (k : ℕ) (x : List ℕ) → k < length w
    → written (set w k x) ≡ written (take k w) ++ (length x ∷ (x ++ written (drop (suc k) w)))
written_set w k x h = ap written (set_split w k x h) ∙ written_append (take k w) (x ∷ drop (suc k) w)

-- "room is needed for 8 plus the sizes of all sheets": a count for each slot, and the contents
pub written_length : (w : Slots) → length (written w) ≡ length w + total w
written_length [] = refl
written_length (x ∷ w) = let e = written_length w in let l = length-append x (written w) in omega arith

-- a slot's contents are among all, so the difference below is not cut off at 0
total_least : (w : Slots) (k : ℕ) → length (get_or w k []) ≤ total w
total_least [] k = omega arith
total_least (x ∷ w) zero = omega arith
total_least (x ∷ w) (suc k) = let e = total_least w k in omega arith

-- what another contents of one slot makes of the sizes of all
pub total_change : (w : Slots) (k : ℕ) (x : List ℕ) → k < length w
    → total (set w k x) + length (get_or w k []) ≡ total w + length x
total_change [] k x h = let z : ⊥ = omega arith in absurd z
total_change (y ∷ w) zero x h = omega arith
total_change (y ∷ w) (suc k) x h = let e = total_change w k x (omega arith) in omega arith

-- the same, solved for the new total
pub total_set : (w : Slots) (k : ℕ) (x : List ℕ) → k < length w
    → total (set w k x) ≡ total w - length (get_or w k []) + length x
total_set w k x h = let e = total_change w k x h in let l = total_least w k in omega arith
