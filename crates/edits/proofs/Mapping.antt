-- Words changed one after the other, each by f: the turns of the loops over the row starts.
use Prim.Native.Nat.{ℕ, ◌+◌, ◌-◌, ◌≤◌, ◌<◌}
use native.Mathlib.Omega.{arith}
use native.Mathlib.Decide.{dec_lt}
use mathlib.Core.Path.{◌≡◌, refl, sym, ap, ◌∙◌}
use mathlib.Core.List.{List, ◌++◌, append_assoc}
use lib.ListN.{length, take, drop, set, length-set}
use lib.Seq.{get_or-set_same, get_or-set_other}
use borrow.Rule.Slice.PartMut.{put_mid, Post-is}
use Rattle.words.specs.Words.{at, part, overwrite}
use Rattle.words.proofs.Parts.{length_part, part_at}
use Rattle.words.proofs.Overwrite.{overwrite_length, overwrite_before, overwrite_at, overwrite_after}
use Rattle.edits.specs.Changes.{Mapped}

-- at first no word is changed
pub mapped_none : (f : ℕ → ℕ) (a : ℕ) (s : List ℕ) → Mapped f a a s s
mapped_none f a s = record {
  same = refl;
  before = λ k l. refl;
  within = λ k l m. absurd (omega arith);
  after = λ k l. refl;
}

-- a turn changes the word at k
pub mapped_more : {f : ℕ → ℕ} {a k : ℕ} {s t : List ℕ} → Mapped f a k s t → a ≤ k → k < length s
    → Mapped f a (k + 1) s (set t k (f (at t k)))
mapped_more {f} {a} {k} {s} {t} h l m = record {
  same = length-set t k (f (at t k)) ∙ h.same;
  before = λ x b. get_or-set_other t k x (f (at t k)) 0 (λ e. omega arith) ∙ h.before x b;
  within = λ x b e. go x b e (dec_lt x k);
  after = λ x b. get_or-set_other t k x (f (at t k)) 0 (λ e. omega arith) ∙ h.after x (omega arith);
}
  where
    go : (x : ℕ) → a ≤ x → x < k + 1 → Dec (x < k) → at (set t k (f (at t k))) x ≡ f (at s x)
    go x b e (yes d) = get_or-set_other t k x (f (at t k)) 0 (λ q. omega arith) ∙ h.within x b d
    go x b e (no d) =
        let q : x ≡ k = omega arith in
        rw q (get_or-set_same t k (f (at t k)) 0 (omega (arith, h.same)) ∙ ap f (h.after k (omega arith)))

-- a part put back is written over what was there
put_over : (a e : ℕ) (s t : List ℕ) → a ≤ e → length t ≡ e - a → put_mid a (e - a) s t ≡ overwrite a t s
unfolding overwrite
put_over a e s t o n =
    let q : e ≡ a + length t = omega arith in
    ap (λ (z : List ℕ). take a s ++ (t ++ z)) (Post-is a e s o)
    ∙ ap (λ (n : ℕ). take a s ++ (t ++ drop n s)) q ∙ sym (append_assoc (take a s) t (drop (a + length t) s))

-- the changed words of a part, put back
pub mapped_back : {f : ℕ → ℕ} {a e n : ℕ} {s t : List ℕ} → a ≤ e → e ≤ length s → n ≡ e - a
    → Mapped f 0 n (part a e s) t → Mapped f a e s (put_mid a (e - a) s t)
mapped_back {f} {a} {e} {n} {s} {t} o l g h =
    let m : length t ≡ e - a = h.same ∙ length_part a e s l in
    let b : a + length t ≤ length s = omega arith in
    rw (put_over a e s t o m) (record {
      same = overwrite_length a t s b;
      before = overwrite_before a t s b;
      within = λ k d c.
          let q : a + (k - a) ≡ k = omega arith in
          sym (ap (λ (i : ℕ). at (overwrite a t s) i) q) ∙ overwrite_at a t s b (k - a) (omega arith)
          ∙ h.within (k - a) (omega arith) (omega arith)
          ∙ ap f (part_at a e (k - a) s (omega arith) ∙ ap (at s) q);
      after = λ k c. overwrite_after a t s b k (omega arith);
    })
