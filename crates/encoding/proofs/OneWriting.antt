-- Demand 2's "one writing", proved: the theorems of Canonical and Encoded put together, and the size of the words.
use Rattle.std.proofs.Common.{None, Some}
use Prim.Native.Nat.{ℕ, zero, suc, ◌+◌, ◌-◌, ◌^◌, ◌<◌}
use native.Mathlib.Omega.{arith}
use native.Mathlib.Decide.{dec_lt}
use mathlib.Core.Path.{◌≡◌, refl, sym, ap, ◌∙◌}
use mathlib.Core.List.{List, [], ◌∷◌, ◌++◌}
use mathlib.Core.Bool.{Bool, true, false, cond}
use lib.ListN.{length, take, drop, get_or-append}
use lib.Seq.{take_at, get_or-append-add, get_or-drop}
use lib.Dec.{eqb}
use Rattle.words.specs.Words.{at, part}
use Rattle.grid.specs.Cell.{Cell}
use Rattle.grid.specs.Grid.{Grid, Same}
use Rattle.grid.specs.Entries.{column, value, one, gather, flatten, grid_columns, grid_values}
use Rattle.grid.proofs.Gather.{flatten_grows}
use Rattle.rows.specs.Row.{lookup}
use Rattle.matrix.specs.Layout.{revision, size, row_columns, row_values, values_from, cell_of, grid_of}
use Rattle.matrix.specs.Valid.{valid}
use Rattle.encoding.specs.Encode.{entries_before, counted, tabulate, grid_starts, encode_revised, Within}
use Rattle.encoding.specs.OneWriting.{AreWords, ValuesAreWords, matrix_words, OneWriting}
use Rattle.encoding.proofs.GridSections.{starts_length, values_length}
use Rattle.encoding.proofs.Canonical.{
  encode_valid,
  encode_length,
  encode_revision,
  encode_same,
  encode_ext,
  valid_within,
  valid_encoded,
  valid_size,
}

-- the words of a valid matrix are the writing of its grid
words_encoded : (s : List ℕ) → valid s ≡ true → matrix_words s ≡ encode_revised (revision s) (grid_of s)
words_encoded s v =
    ap (take (size s)) (valid_encoded s v)
    ∙ take_at (encode_revised (revision s) (grid_of s)) (drop (size s) s) (size s) (valid_size (revision s) s v)

-- grids whose writings begin the same words agree: both are the grid that the words hold
same_from_words : (v w : ℕ) (g h : Grid) (t u : List ℕ) → encode_revised v g ++ t ≡ encode_revised w h ++ u → Same g h
same_from_words v w g h t u e =
    let p = encode_same v g t in
    let q = encode_same w h u in
    let rows : g.rows ≡ h.rows = sym p.rows ∙ ap (λ (l : List ℕ). (grid_of l).rows) e ∙ q.rows in
    let cols : g.cols ≡ h.cols = sym p.cols ∙ ap (λ (l : List ℕ). (grid_of l).cols) e ∙ q.cols in
    record {
      rows = rows;
      cols = cols;
      cell = λ i j l m.
          sym (p.cell i j (omega arith) (omega arith)) ∙ ap (λ (w : List ℕ). cell_of w i j) e ∙ q.cell i j l m;
    }

-- and so do their revisions
revision_from_words : (v w : ℕ) (g h : Grid) (t u : List ℕ) → encode_revised v g ++ t ≡ encode_revised w h ++ u → v ≡ w
revision_from_words v w g h t u e = sym (encode_revision v g t) ∙ ap revision e ∙ encode_revision w h u

-- lists of 32-bit words: none, one more, one after the other, a part
words_none : AreWords []
words_none k = omega arith

words_cons : (x : ℕ) (l : List ℕ) → x < 2 ^ 32 → AreWords l → AreWords (x ∷ l)
words_cons x l b h zero = b
words_cons x l b h (suc k) = h k

words_append : (l m : List ℕ) → AreWords l → AreWords m → AreWords (l ++ m)
words_append l m p q k = go (dec_lt k (length l))
  where
    go : Dec (k < length l) → at (l ++ m) k < 2 ^ 32
    go (yes d) = rw (get_or-append l m 0 k d) (p k)
    go (no d) =
        let e : k ≡ length l + (k - length l) = omega arith in
        rw (e, get_or-append-add l m (k - length l) 0) (q (k - length l))

words_take : (n : ℕ) (l : List ℕ) → AreWords l → AreWords (take n l)
words_take zero l h k = omega arith
words_take (suc n) [] h k = omega arith
words_take (suc n) (x ∷ l) h zero = h zero
words_take (suc n) (x ∷ l) h (suc k) = words_take n l (λ i. h (suc i)) k

words_part : (a e : ℕ) (s : List ℕ) → AreWords s → AreWords (part a e s)
words_part a e s h = words_take (e - a) (drop a s) (λ k. rw (get_or-drop a s k 0) (h (a + k)))

-- a section after its count
words_counted : (l : List ℕ) → length l < 2 ^ 32 → AreWords l → AreWords (counted l)
words_counted l = words_cons (length l) l

-- n numbers, each a word
words_tabulate : (f : ℕ → ℕ) (n : ℕ) → ((i : ℕ) → i < n → f i < 2 ^ 32) → AreWords (tabulate f n)
unfolding tabulate
words_tabulate f zero h = words_none
words_tabulate f (suc n) h =
    words_append (tabulate f n) (f n ∷ []) (words_tabulate f n (λ i l. h i (omega arith)))
    (words_cons (f n) [] (h n (omega arith)) words_none)

-- what is taken of a row's entries, and of all entries, where each is a word
words_one : (emit : ℕ → ℕ → ℕ) (j : ℕ) (c : Cell) → ((v : ℕ) → c ≡ Some v → emit j v < 2 ^ 32)
    → AreWords (one emit j c)
unfolding one
words_one emit j None h = words_none
words_one emit j (Some v) h = words_cons (emit j v) [] (h v refl) words_none

words_gather : (emit : ℕ → ℕ → ℕ) (n : ℕ) (row : ℕ → Cell)
    → ((j v : ℕ) → j < n → row j ≡ Some v → emit j v < 2 ^ 32) → AreWords (gather emit n row)
unfolding gather
words_gather emit zero row h = words_none
words_gather emit (suc n) row h =
    words_append (gather emit n row) (one emit n (row n)) (words_gather emit n row (λ j v l. h j v (omega arith)))
    (words_one emit n (row n) (λ v. h n v (omega arith)))

words_flatten : (emit : ℕ → ℕ → ℕ) (n : ℕ) (cell : ℕ → ℕ → Cell) (r : ℕ)
    → ((i j v : ℕ) → i < r → j < n → cell i j ≡ Some v → emit j v < 2 ^ 32) → AreWords (flatten emit n cell r)
unfolding flatten
words_flatten emit n cell zero h = words_none
words_flatten emit n cell (suc r) h =
    words_append (flatten emit n cell r) (gather emit n (cell r))
    (words_flatten emit n cell r (λ i j v l. h i j v (omega arith)))
    (words_gather emit n (cell r) (λ j v. h r j v (omega arith)))

-- the writing of a grid of words is words: every count, start and column number is below the limits
encode_words : (v : ℕ) (g : Grid) → v < 2 ^ 32 → Within g → ValuesAreWords g → AreWords (encode_revised v g)
unfolding encode_revised
encode_words v g b w h =
    let r = w.row_range.most in
    let c = w.col_range.most in
    let n = w.few in
    let shape : List ℕ = g.rows ∷ g.cols ∷ [] in
    let starts = grid_starts g in
    let columns = grid_columns g in
    let values = grid_values g in
    words_append (counted (v ∷ [])) (counted shape ++ (counted starts ++ (counted columns ++ counted values)))
    (words_counted (v ∷ []) (omega arith) (words_cons v [] b words_none))
    (words_append (counted shape) (counted starts ++ (counted columns ++ counted values))
    (words_counted shape (omega arith)
    (words_cons g.rows (g.cols ∷ []) (omega arith) (words_cons g.cols [] (omega arith) words_none)))
    (words_append (counted starts) (counted columns ++ counted values)
    (words_counted starts (omega (arith, starts_length g))
    (words_tabulate (entries_before g) (g.rows + 1)
    (λ i l. omega (arith, flatten_grows column g.cols g.cell i g.rows (omega arith)))))
    (words_append (counted columns) (counted values)
    (words_counted columns (omega arith)
    (words_flatten column g.cols g.cell g.rows (λ i j v l m e. omega arith)))
    (words_counted values (omega (arith, values_length g)) (words_flatten value g.cols g.cell g.rows h)))))

-- a value that is looked up is one of the words
lookup_word : (cs vs : List ℕ) (j v : ℕ) → AreWords vs → lookup cs vs j ≡ Some v → v < 2 ^ 32
unfolding lookup
lookup_word [] vs j v h e = let z : ◌≡◌ {A = ℕ} 0 1 = cc in omega arith
lookup_word (c ∷ cs) [] j v h e = let z : ◌≡◌ {A = ℕ} 0 1 = cc in omega arith
lookup_word (c ∷ cs) (x ∷ vs) j v h e = go (eqb c j) (lookup_word cs vs j v (λ k. h (suc k))) e
  where
    -- the first value, or one of the others
    go : (b : Bool) → (lookup cs vs j ≡ Some v → v < 2 ^ 32) → cond b (Some x) (lookup cs vs j) ≡ Some v
        → v < 2 ^ 32
    go true r f = let q : x ≡ v = cc in rw (← q) (h zero)
    go false r f = r f

read_words : (s : List ℕ) → AreWords s → ValuesAreWords (grid_of s)
unfolding cell_of
read_words s h i j v l m e =
    lookup_word (row_columns s i) (row_values s i) j v
    (words_part (values_from s i) (values_from s (i + 1)) s h) e

pub one_writing : OneWriting
one_writing = record {
  written = encode_valid;
  sized = encode_length;
  read_back = encode_same;
  revision_back = encode_revision;
  one = words_encoded;
  within = valid_within;
  unique = λ s t v w e r.
      words_encoded s v ∙ encode_ext (revision s) (grid_of s) (grid_of t) e ∙ ap (λ (k : ℕ). encode_revised k (grid_of t)) r
      ∙ sym (words_encoded t w);
  same_writing = encode_ext;
  same_grid_lem = same_from_words;
  same_revision = revision_from_words;
  words_fit = encode_words;
  values_fit = read_words;
}
