-- Words that are a matrix and nothing more, and words that begin with them: valid, of the same size and count.
use Prim.Native.Nat.{ℕ, ◌^◌, ◌≤◌, ◌<◌}
use native.Mathlib.Omega.{arith}
use native.Mathlib.Decide.{dec_lt}
use mathlib.Core.Path.{◌≡◌, sym, ap, ◌∙◌}
use mathlib.Core.Bool.{true}
use mathlib.Core.List.{List, [], ◌++◌, append-nil}
use lib.ListN.{length, take, drop, take-append-drop, get_or-append, get_or-eq_default}
use lib.Seq.{length-take-le, take_at, take_all}
use Rattle.words.specs.Words.{at}
use Rattle.matrix.specs.Layout.{revision, rows, entries, size, count_at, rows_at, grid_of}
use Rattle.matrix.specs.Valid.{valid}
use Rattle.matrix.proofs.Facts.{matrix_facts}
use Rattle.encoding.specs.OneWriting.{AreWords, matrix_words}
use Rattle.encoding.proofs.OneWriting.{one_writing}

-- words of a list that begins with h, which holds its own header
module _ (h t : List ℕ) (fits : size h ≤ length h) where
  rows_front : rows (h ++ t) ≡ rows h
  rows_front = get_or-append h t 0 rows_at (omega arith)

  pub entries_front : entries (h ++ t) ≡ entries h
  entries_front =
      ap (λ (r : ℕ). at (h ++ t) (count_at r)) rows_front ∙ get_or-append h t 0 (count_at (rows h)) (omega arith)

  pub size_front : size (h ++ t) ≡ size h
  size_front = let r = rows_front in let e = entries_front in omega arith

-- a valid matrix of exactly its size, with any words behind it
module _ (h t : List ℕ) (v : valid h ≡ true) (n : length h ≡ size h) where
  whole : matrix_words h ≡ h
  whole = take_all (size h) h (omega arith)

  pub valid_front : valid (h ++ t) ≡ true
  valid_front =
      let e = sym whole ∙ one_writing.one h v in
      rw e (one_writing.written (revision h) (grid_of h) t (one_writing.within h v))

  pub words_front : matrix_words (h ++ t) ≡ h
  words_front = take_at h t (size (h ++ t)) (n ∙ sym (size_front h t (omega arith)))

-- the words of a valid matrix are such a matrix
module _ (s : List ℕ) (v : valid s ≡ true) where
  matrix_length : length (matrix_words s) ≡ size s
  matrix_length = length-take-le (size s) s (matrix_facts s v).header.fits

  joined : matrix_words s ++ drop (size s) s ≡ s
  joined = take-append-drop (size s) s

  pub matrix_valid : valid (matrix_words s) ≡ true
  matrix_valid =
      let e = one_writing.one s v in
      rw e (rw (append-nil _) at (one_writing.written (revision s) (grid_of s) [] (one_writing.within s v)))

  rows_of : rows (matrix_words s) ≡ rows s
  rows_of =
      let n = matrix_length in
      sym (get_or-append (matrix_words s) (drop (size s) s) 0 rows_at (omega arith)) ∙ ap rows joined

  pub entries_of : entries (matrix_words s) ≡ entries s
  entries_of =
      let n = matrix_length in
      ap (λ (r : ℕ). at (matrix_words s) (count_at r)) rows_of
      ∙ sym (get_or-append (matrix_words s) (drop (size s) s) 0 (count_at (rows s)) (omega arith))
      ∙ ap (λ (x : List ℕ). at x (count_at (rows s))) joined

  pub size_of_lem : size (matrix_words s) ≡ size s
  size_of_lem = let r = rows_of in let e = entries_of in omega arith

-- words of a part are words
pub words_of_lem : (s : List ℕ) (n : ℕ) → AreWords s → AreWords (take n s)
words_of_lem s n w k = go (dec_lt k (length (take n s)))
  where
    go : Dec (k < length (take n s)) → at (take n s) k < 2 ^ 32
    go (yes l) =
        let f = sym (get_or-append (take n s) (drop n s) 0 k l) in
        let e = f ∙ ap (λ (x : List ℕ). at x k) (take-append-drop n s) in
        rw e (w k)
    go (no l) = rw (get_or-eq_default (take n s) 0 {n = k} (omega arith)) (omega arith)
