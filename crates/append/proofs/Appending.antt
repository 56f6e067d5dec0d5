-- Laws of `Appended`: nothing, one byte, and two lists of bytes one after the other. Cited by every function that
-- appends.
use Prim.Native.Nat.{ℕ, suc, ◌+◌, ◌≤◌, ◌<◌}
use native.Mathlib.Omega.{arith}
use native.Mathlib.Nat.{add-zero}
use native.Mathlib.Numerals.{add-one}
use mathlib.Core.Path.{◌≡◌, refl, sym, ap, ◌∙◌}
use mathlib.Core.List.{List, [], ◌∷◌, ◌++◌, append-nil, append_assoc}
use lib.ListN.{length, take, drop, set, length-append, length-set, take-append-drop}
use lib.Seq.{set_split, take_at, drop-append-add, drop-drop, length-take-le, append_snoc}
use Rattle.words.specs.Words.{overwrite}
use Rattle.append.specs.Appended.{Appended}

-- no bytes
pub appended_none : (s : List ℕ) (at : ℕ) → at ≤ length s → Appended [] s s at at
unfolding overwrite
appended_none s at h = record {
  next = omega arith;
  fits = h;
  bytes = sym (rw (append-nil (take at s), add-zero at) (take-append-drop at s));
  kept = refl;
}

-- one byte
pub appended_one : (s : List ℕ) (at b : ℕ) → at < length s → Appended (b ∷ []) s (set s at b) at (at + 1)
unfolding overwrite
appended_one s at b h = record {
  next = refl;
  fits = omega arith;
  bytes = set_split s at b h ∙ sym (append_snoc (take at s) b (drop (suc at) s)) ∙ rw (add-one at);
  kept = length-set s at b;
}

-- y written behind x, in the list
overwrite_more : (a : ℕ) (x y s : List ℕ) → a + length x + length y ≤ length s
    → overwrite (a + length x) y (overwrite a x s) ≡ overwrite a (x ++ y) s
unfolding overwrite
overwrite_more a x y s h =
    let front : List ℕ = take a s ++ x in
    let rest : List ℕ = drop (a + length x) s in
    let n : length front ≡ a + length x =
    length-append (take a s) x ∙ ap (λ (k : ℕ). k + length x) (length-take-le a s (omega arith)) in
    let p : take (a + length x) (front ++ rest) ≡ front = take_at front rest (a + length x) n in
    let q : drop (a + length x + length y) (front ++ rest) ≡ drop (length y) rest =
    ap (λ (k : ℕ). drop (k + length y) (front ++ rest)) (sym n) ∙ drop-append-add front rest (length y) in
    let e : a + length x + length y ≡ a + length (x ++ y) = omega (arith, length-append x y) in
    ap (λ (l : List ℕ). l ++ y ++ drop (a + length x + length y) (front ++ rest)) p
    ∙ ap (λ (l : List ℕ). front ++ y ++ l) (q ∙ drop-drop (length y) (a + length x) s ∙ ap (λ (k : ℕ). drop k s) e)
    ∙ ap (λ (l : List ℕ). l ++ drop (a + length (x ++ y)) s) (append_assoc (take a s) x y)

-- x, and then y
pub appended_then : {x y s t u : List ℕ} {a b c : ℕ} → Appended x s t a b → Appended y t u b c
    → Appended (x ++ y) s u a c
appended_then {x} {y} {s} {t} {u} {a} {b} {c} p q = record {
  next = rw (length-append x y) (omega (arith, p.next, q.next));
  fits = omega (arith, q.fits, p.kept);
  bytes =
      q.bytes ∙ ap (overwrite b y) p.bytes ∙ ap (λ (k : ℕ). overwrite k y (overwrite a x s)) p.next
      ∙ overwrite_more a x y s (omega (arith, p.next, q.next, q.fits, p.kept));
  kept = q.kept ∙ p.kept;
}
