-- Contents written in their place: for a caller that lends the words of a slot, `&mut store[a..e]`, to be written.
use Prim.Native.Nat.{ℕ, suc, ◌+◌, ◌-◌, ◌<◌}
use native.Mathlib.Omega.{arith}
use mathlib.Core.Path.{◌≡◌, sym, ap, ◌∙◌}
use mathlib.Core.List.{List, [], ◌∷◌, ◌++◌, append_assoc}
use lib.ListN.{length, take, drop, set, replicate, length-append}
use lib.Seq.{take_at, drop_at}
use borrow.Rule.Slice.PartMut.{put_mid, Post-is}
use Rattle.words.specs.Words.{part}
use Rattle.words.proofs.Parts.{part_middle}
use Rattle.slots.specs.Sections.{Slots, written, writing}
use Rattle.slots.proofs.Written.{section_between, written_set}

-- the words of a section, and what stands before and after them
split : (b x r z : List ℕ) (c : ℕ) → (b ++ (c ∷ (x ++ r))) ++ z ≡ (b ++ (c ∷ [])) ++ (x ++ (r ++ z))
split b x r z c = section_between b x r z c ∙ sym (append_assoc b (c ∷ []) (x ++ (r ++ z)))

-- with as many words in a slot the length is the same
set_length : (w : Slots) (k : ℕ) (x y : List ℕ) → k < length w → length x ≡ length y
    → length (written (set w k x)) ≡ length (written (set w k y))
set_length w k x y l m =
    ap length (written_set w k x l) ∙ go (written (take k w)) (written (drop (suc k) w))
    ∙ sym (ap length (written_set w k y l))
  where
    go : (b r : List ℕ) → length (b ++ (length x ∷ (x ++ r))) ≡ length (b ++ (length y ∷ (y ++ r)))
    go b r =
        let p = length-append b (length x ∷ (x ++ r)) in
        let q = length-append b (length y ∷ (y ++ r)) in
        let s = length-append x r in
        let t = length-append y r in
        omega arith

-- the words of slot k, which are lent, are from a up to e
pub lent : (n : ℕ) (w : Slots) (k a e : ℕ) (y u : List ℕ) → k < length w → a ≡ length (written (take k w)) + 1
    → e ≡ a + length y → u ≡ writing n (set w k y) → part a e u ≡ y
unfolding writing
lent n w k a e y u l p q v =
    let b : List ℕ = written (take k w) in
    let r : List ℕ = written (drop (suc k) w) in
    let z : List ℕ = replicate (n - length (written (set w k y))) 0 in
    let c = length-append b (length y ∷ []) in
    ap (part a e) (v ∙ ap (λ (t : List ℕ). t ++ z) (written_set w k y l) ∙ split b y r z (length y))
    ∙ part_middle (b ++ (length y ∷ [])) y (r ++ z) a e (omega arith) (omega arith)

-- they were y, and give way to as many words x
pub placed : (n : ℕ) (w : Slots) (k a e : ℕ) (x y u : List ℕ) → k < length w → a ≡ length (written (take k w)) + 1
    → e ≡ a + length x → length x ≡ length y → u ≡ writing n (set w k y)
    → put_mid a (e - a) u x ≡ writing n (set w k x)
unfolding writing
placed n w k a e x y u l p q m v =
    let b : List ℕ = written (take k w) in
    let c : List ℕ = b ++ (length y ∷ []) in
    let r : List ℕ = written (drop (suc k) w) in
    let z : List ℕ = replicate (n - length (written (set w k y))) 0 in
    let lc = length-append b (length y ∷ []) in
    let ly = length-append c y in
    let s : u ≡ c ++ (y ++ (r ++ z)) =
    v ∙ ap (λ (t : List ℕ). t ++ z) (written_set w k y l) ∙ split b y r z (length y) in
    ap (λ (i : List ℕ). i ++ (x ++ drop (e - a) (drop a u))) (ap (take a) s ∙ take_at c (y ++ (r ++ z)) a (omega arith))
    ∙ ap (λ (i : List ℕ). c ++ (x ++ i))
    (Post-is a e u (omega arith) ∙ ap (drop e) (s ∙ sym (append_assoc c y (r ++ z)))
    ∙ drop_at (c ++ y) (r ++ z) e (omega arith))
    ∙ sym (split b x r z (length y))
    ∙ ap (λ (i : ℕ). (b ++ (i ∷ (x ++ r))) ++ z) (sym m)
    ∙ ap (λ (i : List ℕ). i ++ z) (sym (written_set w k x l))
    ∙ ap (λ (i : ℕ). written (set w k x) ++ replicate (n - i) 0) (sym (set_length w k x y l m))
