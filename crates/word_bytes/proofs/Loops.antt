-- The loops that write words as bytes and bytes as words: a turn and the end of each.
use Prim.Native.Nat.{ℕ, zero, suc, ◌+◌, ◌*◌, ◌/◌, ◌≤◌, ◌<◌}
use native.Mathlib.Omega.{arith}
use native.Mathlib.Numerals.{add-one}
use mathlib.Core.Path.{◌≡◌, refl, sym, ap, ◌∙◌}
use mathlib.Core.List.{List, [], ◌∷◌, ◌++◌, append_assoc}
use lib.ListN.{length, take, drop, set, get_or}
use lib.Seq.{take-suc, drop-drop, paste}
use borrow.Rule.Slice.PartMut.{put_mid}
use Rattle.std.specs.Simd.{first_chunks}
use Rattle.std.specs.Int.{w32, to_le_bytes, from_le_bytes}
use Rattle.words.specs.Words.{at, overwrite}
use Rattle.words.proofs.Overwrite.{overwrite_length, copy_turn, overwrite_done}
use Rattle.append.specs.Appended.{Appended}
use Rattle.append.proofs.Appending.{appended_then}
use Rattle.word_bytes.specs.Bytes.{bytes_of, words_of}
use Rattle.word_bytes.proofs.RoundTrips.{length_words}

bytes_append : (x y : List ℕ) → bytes_of (x ++ y) ≡ bytes_of x ++ bytes_of y
unfolding bytes_of
bytes_append [] y = refl
bytes_append (w ∷ x) y = rw (bytes_append x y)

-- the bytes of one word more
bytes_next : (ws : List ℕ) (k : ℕ) → k < length ws
    → bytes_of (take (k + 1) ws) ≡ bytes_of (take k ws) ++ to_le_bytes w32 (at ws k)
unfolding bytes_of
bytes_next ws k h =
    rw (add-one k, take-suc ws k 0 h) (bytes_append (take k ws) (at ws k ∷ []))

-- the bytes x written over a part of the buffer
appended_part : (s x : List ℕ) (a n e : ℕ) → n ≡ length x → e ≡ a + length x → e ≤ length s
    → Appended x s (put_mid a n s x) a e
unfolding overwrite
appended_part s x a n e p q h =
    let b : put_mid a n s x ≡ overwrite a x s =
    ap (λ (l : List ℕ). take a s ++ (x ++ l)) (drop-drop n a s ∙ ap (λ (k : ℕ). drop (a + k) s) p)
    ∙ sym (append_assoc (take a s) x (drop (a + length x) s)) in
    record {
      next = q;
      fits = h;
      bytes = b;
      kept = ap length b ∙ overwrite_length a x s (omega arith);
    }

-- writing: word k is written behind those before it
pub writing_turn : (ws : List ℕ) (k n : ℕ) {s t x : List ℕ} → k < length ws → length ws * 4 ≤ length s → n ≡ 4
    → x ≡ to_le_bytes w32 (at ws k) → Appended (bytes_of (take k ws)) s t 0 (4 * k)
    → Appended (bytes_of (take (k + 1) ws)) s (put_mid (4 * k) n t x) 0 (4 * (k + 1))
writing_turn ws k n {s} {t} {x} h l m e p =
    let four : length x ≡ 4 = ap length e in
    rw (bytes_next ws k h)
    (appended_then p (rw (sym e) (appended_part t x (4 * k) n (4 * (k + 1)) (omega arith) (omega arith)
    (omega (arith, p.kept)))))

-- reading: word k is that of the fours of bytes
word_at : (s : List ℕ) (k n : ℕ) (d : List ℕ) → k < n → n ≡ length s / 4
    → at (words_of s) k ≡ from_le_bytes w32 (get_or (first_chunks 4 n s) k d)
unfolding words_of
word_at s k zero d h e = absurd (omega arith)
word_at [] k (suc n) d h e = absurd (omega arith)
word_at (a ∷ []) k (suc n) d h e = absurd (omega arith)
word_at (a ∷ b ∷ []) k (suc n) d h e = absurd (omega arith)
word_at (a ∷ b ∷ c ∷ []) k (suc n) d h e = absurd (omega arith)
word_at (a ∷ b ∷ c ∷ f ∷ s) zero (suc n) d h e = refl
word_at (a ∷ b ∷ c ∷ f ∷ s) (suc k) (suc n) d h e = word_at s k n d (omega arith) (omega arith)

pub reading_turn : (b d t : List ℕ) (fs : List (List ℕ)) (k w : ℕ) → length b / 4 ≤ length d
    → fs ≡ first_chunks 4 (length b / 4) b → length fs ≡ length b / 4 → k < length fs
    → w ≡ from_le_bytes w32 (get_or fs k []) → t ≡ paste d 0 (words_of b) k
    → set t k w ≡ paste d 0 (words_of b) (k + 1)
reading_turn b d t fs k w l f m h q p =
    let len = length_words b in
    let z : 0 + k ≡ k = omega arith in
    let v : w ≡ at (words_of b) k =
    q ∙ ap (λ (x : List (List ℕ)). from_le_bytes w32 (get_or x k [])) f
    ∙ sym (word_at b k (length b / 4) [] (omega arith) refl) in
    ap (λ (x : List ℕ). set x k w) p ∙ ap (set (paste d 0 (words_of b) k) k) v
    ∙ ap (λ (i : ℕ). set (paste d 0 (words_of b) k) i (at (words_of b) k)) (sym z)
    ∙ copy_turn d 0 (words_of b) k (omega arith) (omega arith)

pub reading_done : (b d : List ℕ) (k : ℕ) → k ≡ length b / 4 → length b / 4 ≤ length d
    → paste d 0 (words_of b) k ≡ overwrite 0 (words_of b) d
reading_done b d k h l =
    let n = length_words b in overwrite_done 0 (words_of b) d (omega arith) k (omega arith)
