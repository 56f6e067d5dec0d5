-- The sections of a grid's writing: how long they are, the row starts word by word, the part of each row, and that they
-- depend only on the cells within the shape.
use Prim.Native.Nat.{ℕ, zero, suc, ◌+◌, ◌≤◌, ◌<◌}
use native.Mathlib.Omega.{arith}
use native.Mathlib.Decide.{dec_lt}
use mathlib.Core.Path.{◌≡◌, refl, sym, ap, ◌∙◌}
use mathlib.Core.List.{List, [], ◌∷◌, ◌++◌, append_assoc}
use lib.ListN.{length, length-append, get_or-append}
use lib.Seq.{get_or_at, ext_get_or}
use Rattle.words.specs.Words.{at, part}
use Rattle.words.proofs.Parts.{part_middle}
use Rattle.grid.specs.Grid.{Grid, Same}
use Rattle.grid.specs.Entries.{column, value, gather, flatten, grid_values, entry_count}
use Rattle.grid.proofs.Gather.{flatten_length, flatten_same, flatten_next, flatten_begins}
use Rattle.encoding.specs.Encode.{entries_before, tabulate, grid_starts}

-- `tabulate f n` has n words
tabulate_length : (f : ℕ → ℕ) (n : ℕ) → length (tabulate f n) ≡ n
unfolding tabulate
tabulate_length f zero = refl
tabulate_length f (suc n) = simp length-append (omega (arith, tabulate_length f n))

-- of which the one at i is f i
tabulate_at : (f : ℕ → ℕ) (n i : ℕ) → i < n → at (tabulate f n) i ≡ f i
unfolding tabulate
tabulate_at f zero i l = absurd (omega arith)
tabulate_at f (suc n) i l = go (dec_lt i n) (λ d. tabulate_at f n i d)
  where
    go : Dec (i < n) → (i < n → at (tabulate f n) i ≡ f i) → at (tabulate f n ++ (f n ∷ [])) i ≡ f i
    go (yes d) h =
        let k = tabulate_length f n in get_or-append (tabulate f n) (f n ∷ []) 0 i (omega arith) ∙ h d
    go (no d) h =
        let e : i ≡ n = omega arith in
        rw e (get_or_at (tabulate f n) (f n) [] 0 n (tabulate_length f n))

module _ (g : Grid) where
  -- how many row starts there are
  pub starts_length : length (grid_starts g) ≡ g.rows + 1
  starts_length = tabulate_length (entries_before g) (g.rows + 1)

  -- how many values
  pub values_length : length (grid_values g) ≡ entry_count g
  values_length = flatten_length value column g.cols g.cell g.rows

  -- the row starts, word by word
  pub starts_at_lem : (i : ℕ) → i ≤ g.rows → at (grid_starts g) i ≡ entries_before g i
  starts_at_lem i l = tabulate_at (entries_before g) (g.rows + 1) i (omega arith)

  -- a list with these words is the list of the row starts
  pub starts_are : (l : List ℕ) → length l ≡ g.rows + 1 → ((i : ℕ) → i ≤ g.rows → at l i ≡ entries_before g i)
      → l ≡ grid_starts g
  starts_are l e h =
      ext_get_or 0 l (grid_starts g) (e ∙ sym starts_length)
      (λ i m. h i (omega arith) ∙ sym (starts_at_lem i (omega arith)))

  -- the part of all columns or values that belongs to row i
  pub row_of_all : (emit : ℕ → ℕ → ℕ) (i : ℕ) → i < g.rows
      → part (entries_before g i) (entries_before g (i + 1)) (flatten emit g.cols g.cell g.rows)
      ≡ gather emit g.cols (g.cell i)
  row_of_all emit i l =
      let front = flatten emit g.cols g.cell i in
      let row = gather emit g.cols (g.cell i) in
      let all = flatten_begins emit g.cols g.cell (i + 1) g.rows (omega arith) in
      let next = flatten_next emit g.cols g.cell i in
      let same = flatten_length emit column g.cols g.cell in
      let ends : entries_before g i + length row ≡ entries_before g (i + 1) =
      omega (arith, same i, same (i + 1), ap length next, length-append front row) in
      rw (all.joined, next, append_assoc front row all.rest)
      (part_middle front row all.rest (entries_before g i) (entries_before g (i + 1)) (same i) ends)

-- two grids with the same cells
module _ (g h : Grid) (same : Same g h) where
  -- have the same entries in the first k rows
  same_before : (emit : ℕ → ℕ → ℕ) (k : ℕ) → k ≤ h.rows
      → flatten emit g.cols g.cell k ≡ flatten emit h.cols h.cell k
  same_before emit k l =
      rw same.cols (flatten_same emit h.cols g.cell h.cell k (λ i j m n. same.cell i j (omega arith) n))

  -- and so the same row starts
  pub same_starts : grid_starts g ≡ grid_starts h
  same_starts = starts_are h (grid_starts g) (starts_length g ∙ omega arith)
      (λ i l. starts_at_lem g i (omega arith) ∙ ap length (same_before column i l))
