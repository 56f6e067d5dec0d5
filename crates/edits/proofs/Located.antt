-- Words that stand in others: taken from a part, put together, moved. Cited where a section of a matrix is followed
-- through a change.
use Prim.Native.Nat.{ℕ, ◌+◌, ◌-◌, ◌≤◌, ◌<◌}
use native.Mathlib.Omega.{arith}
use native.Mathlib.Decide.{dec_lt}
use mathlib.Core.Path.{◌≡◌, sym, ap, ◌∙◌}
use mathlib.Core.List.{List, [], ◌∷◌, ◌++◌}
use lib.ListN.{length, length-append, get_or-append}
use lib.Seq.{get_or-append-add, ext_get_or}
use Rattle.words.specs.Words.{at, part}
use Rattle.words.proofs.Parts.{length_part, part_at}

-- the words l stand in s from a on
pub record Located (s : List ℕ) (a : ℕ) (l : List ℕ) : Type 0 where
  pub room : a + length l ≤ length s
  pub words : (k : ℕ) → k < length l → at s (a + k) ≡ at l k

-- the words of a part
pub part_located : (a e : ℕ) (s l : List ℕ) → a ≤ e → e ≤ length s → l ≡ part a e s → Located s a l
part_located a e s l h m q =
    let n : length l ≡ e - a = ap length q ∙ length_part a e s m in
    record {
      room = omega arith;
      words = λ k b. sym (ap (λ (x : List ℕ). at x k) q ∙ part_at a e k s (omega arith));
    }

-- the part of these words
pub located_part : {s : List ℕ} {a : ℕ} {l : List ℕ} → Located s a l → (e : ℕ) → a + length l ≡ e → part a e s ≡ l
located_part {s} {a} {l} h e q =
    let n = length_part a e s (omega arith) in
    ext_get_or 0 (part a e s) l (omega arith) (λ k b. part_at a e k s (omega arith) ∙ h.words k (omega arith))

-- two lists one after the other: the first, the second, and both from each
module _ {s : List ℕ} {a : ℕ} (x y : List ℕ) where
  pub located_front : Located s a (x ++ y) → Located s a x
  located_front h =
      let n = length-append x y in
      record {
        room = omega arith;
        words = λ k b. h.words k (omega arith) ∙ get_or-append x y 0 k b;
      }

  pub located_back : (b : ℕ) → a + length x ≡ b → Located s a (x ++ y) → Located s b y
  located_back b e h =
      let n = length-append x y in
      record {
        room = omega arith;
        words = λ k l.
            let q : b + k ≡ a + (length x + k) = omega arith in
            ap (at s) q ∙ h.words (length x + k) (omega arith) ∙ get_or-append-add x y k 0;
      }

  pub located_both : (b : ℕ) → a + length x ≡ b → Located s a x → Located s b y → Located s a (x ++ y)
  located_both b e h g =
      let n = length-append x y in
      record { room = omega arith; words = λ k l. go k l (dec_lt k (length x)) }
    where
      go : (k : ℕ) → k < length (x ++ y) → Dec (k < length x) → at s (a + k) ≡ at (x ++ y) k
      go k l (yes d) = h.words k d ∙ sym (get_or-append x y 0 k d)
      go k l (no d) =
          let p : a + k ≡ b + (k - length x) = omega arith in
          let q : length x + (k - length x) ≡ k = omega arith in
          ap (at s) p ∙ g.words (k - length x) (omega (arith, length-append x y))
          ∙ sym (get_or-append-add x y (k - length x) 0) ∙ ap (at (x ++ y)) q

-- no word
pub located_none : {s : List ℕ} {a : ℕ} → a ≤ length s → Located s a []
located_none h = record { room = omega arith; words = λ k l. absurd (omega arith) }

-- one word
pub located_one : {s : List ℕ} {a v : ℕ} → a < length s → at s a ≡ v → Located s a (v ∷ [])
located_one {s} {a} h e = record {
  room = omega arith;
  words = λ k l. let q : k ≡ 0 = omega arith in let p : a + 0 ≡ a = omega arith in rw (q, p) e;
}

-- words that were moved, or kept, from s to t
pub located_moved : {s t : List ℕ} {a : ℕ} {l : List ℕ} (b : ℕ) → Located s a l → b + length l ≤ length t
    → ((k : ℕ) → k < length l → at t (b + k) ≡ at s (a + k)) → Located t b l
located_moved b h m f = record { room = m; words = λ k l. f k l ∙ h.words k l }
