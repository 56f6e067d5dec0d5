-- Counting words: the turns of a loop that counts, and that the column numbers of a grid count the entries of each row
-- of its transpose.
use Rattle.std.proofs.Common.{None, Some}
use Prim.Native.Nat.{ℕ, zero, suc, ◌+◌, ◌≤◌, ◌<◌}
use native.Mathlib.Omega.{arith}
use native.Mathlib.Decide.{ℕ_discrete}
use native.Mathlib.Numerals.{add-one}
use mathlib.Core.Path.{◌≡◌, refl, sym, ◌∙◌}
use mathlib.Core.List.{List, [], ◌∷◌, ◌++◌}
use lib.ListN.{length, take, set, length-set, length-append}
use lib.Seq.{take-suc, take_all, length-take-le, get_or-set_same, get_or-set_other}
use borrow.Author.Tests.{eq-eqb, ne_eqb}
use Rattle.words.specs.Words.{at}
use Rattle.grid.specs.Cell.{Cell}
use Rattle.grid.specs.Grid.{Grid}
use Rattle.grid.specs.Entries.{column, one, gather, flatten, grid_columns}
use Rattle.operations.specs.GridOperations.{transposed}
use Rattle.transpose.specs.Counts.{occurrences, Countable, CountsOf}
use Rattle.transpose.specs.Placed.{filled}
use Rattle.transpose.proofs.Transposed.{one_anywhere}

-- two lists after one another
occurrences_append : (j : ℕ) (l m : List ℕ) → occurrences j (l ++ m) ≡ occurrences j l + occurrences j m
unfolding occurrences
occurrences_append j [] m = omega arith
occurrences_append j (c ∷ l) m = rw (occurrences_append j l m) (omega arith)

-- a word that is j occurs once, another not at all
occurs : (j c : ℕ) → c ≡ j → occurrences j (c ∷ []) ≡ 1
unfolding occurrences
occurs j c e = rw (eq-eqb c j e)

occurs_not : (j c : ℕ) → (c ≡ j → ⊥) → occurrences j (c ∷ []) ≡ 0
unfolding occurrences
occurs_not j c n = rw (ne_eqb c j n)

-- the count of one word is at most 1
occurs_most : (j c : ℕ) → occurrences j (c ∷ []) ≤ 1
occurs_most j c = go (ℕ_discrete c j)
  where
    go : Dec (c ≡ j) → occurrences j (c ∷ []) ≤ 1
    go (yes e) = omega (arith, occurs j c e)
    go (no n) = omega (arith, occurs_not j c n)

-- no word occurs more often than there are words
occurrences_most : (j : ℕ) (l : List ℕ) → occurrences j l ≤ length l
unfolding occurrences
occurrences_most j [] = omega arith
occurrences_most j (c ∷ l) = omega (arith, occurrences_append j (c ∷ []) l, occurs_most j c, occurrences_most j l)

-- a loop that has counted the first k column numbers
pub record Counting (columns counts₀ counts : List ℕ) (k : ℕ) : Type 0 where
  pub within : k ≤ length columns
  pub long : length counts ≡ length counts₀
  pub counted_are : (j : ℕ) → j < length counts₀ → at counts j ≡ occurrences j (take k columns)

-- none of them yet
pub counting_start : (columns counts : List ℕ) → Countable columns counts → Counting columns counts counts 0
unfolding occurrences
counting_start columns counts h = record { within = omega arith; long = refl; counted_are = λ j l. h.clear j }

module _ {columns counts₀ counts : List ℕ} {k : ℕ} (h : Counting columns counts₀ counts k) where
  -- the counts stay small
  pub counting_small : (j : ℕ) → j < length counts₀ → at counts j ≤ k
  counting_small j l =
      omega (arith, h.counted_are j l, occurrences_most j (take k columns), length-take-le k columns h.within)

  -- one column number more
  pub counting_step : k < length columns
      → Counting columns counts₀ (set counts (at columns k) (at counts (at columns k) + 1)) (k + 1)
  counting_step l =
      let c = at columns k in
      let x = at counts c + 1 in
      record {
        within = omega arith;
        long = length-set counts c x ∙ h.long;
        counted_are = λ j m.
            rw (add-one k, take-suc columns k 0 l, occurrences_append j (take k columns) (c ∷ []))
            (go j m (ℕ_discrete c j));
      }
    where
      -- the count of a column that it is, or is not
      go : (j : ℕ) → j < length counts₀ → Dec (at columns k ≡ j)
          → at (set counts (at columns k) (at counts (at columns k) + 1)) j
          ≡ occurrences j (take k columns) + occurrences j (at columns k ∷ [])
      go j m (yes e) =
          rw (occurs j (at columns k) e, e)
          (get_or-set_same counts j (at counts j + 1) 0 (omega (arith, h.long)) ∙ omega (arith, h.counted_are j m))
      go j m (no n) =
          rw (occurs_not j (at columns k) n)
          (get_or-set_other counts (at columns k) j (at counts (at columns k) + 1) 0 (λ e. n (sym e))
          ∙ omega (arith, h.counted_are j m))

  -- all of them
  pub counting_done : length columns ≤ k → CountsOf columns counts
  counting_done l = record {
    counts_are = λ j m. h.counted_are j (omega (arith, h.long)) ∙ rw (take_all k columns l);
  }

-- a cell at column n adds nothing to the count of another column
one_other : (j n : ℕ) (c : Cell) → (n ≡ j → ⊥) → occurrences j (one column n c) ≡ 0
unfolding one occurrences
one_other j n None d = refl
one_other j n (Some v) d = occurs_not j n d

-- and to that of its own column the number of its entries
one_same : (j : ℕ) (c : Cell) → occurrences j (one column j c) ≡ length (one column j c)
unfolding one occurrences
one_same j None = refl
one_same j (Some v) = occurs j j refl

-- how often a column occurs among the entries of a row's first n columns
module _ (row : ℕ → Cell) where
  -- a column past them does not
  gather_past : (j n : ℕ) → n ≤ j → occurrences j (gather column n row) ≡ 0
  unfolding gather occurrences
  gather_past j zero l = refl
  gather_past j (suc n) l =
      rw (occurrences_append, gather_past j n (omega arith)) (omega (arith, one_other j n (row n) (λ e. omega arith)))

  -- one of them as often as the cell there has entries
  gather_occurrences : (j n : ℕ) → j < n → occurrences j (gather column n row) ≡ length (one column j (row j))
  unfolding gather
  gather_occurrences j zero l = absurd (omega arith)
  gather_occurrences j (suc n) l = rw occurrences_append (go (ℕ_discrete n j) (λ d. gather_occurrences j n d))
    where
      go : Dec (n ≡ j) → (j < n → occurrences j (gather column n row) ≡ length (one column j (row j)))
          → occurrences j (gather column n row) + occurrences j (one column n (row n)) ≡ length (one column j (row j))
      go (yes e) h = rw e (omega (arith, gather_past j j (omega arith), one_same j (row j)))
      go (no d) h = omega (arith, h (omega arith), one_other j n (row n) d)

-- column j occurs in all column numbers of r rows as often as there are entries in that column
flatten_occurrences : (j n : ℕ) (cell : ℕ → ℕ → Cell) (r : ℕ) → j < n
    → occurrences j (flatten column n cell r) ≡ length (gather column r (λ i. cell i j))
unfolding flatten gather occurrences
flatten_occurrences j n cell zero l = refl
flatten_occurrences j n cell (suc r) l =
    rw (occurrences_append, flatten_occurrences j n cell r l, length-append)
    (omega (arith, gather_occurrences (cell r) j n l, one_anywhere j r (cell r j)))

-- the column numbers of a grid count the entries of the rows of its transpose
pub columns_count : (g : Grid) (j : ℕ) → j < g.cols
    → occurrences j (grid_columns g) ≡ filled (transposed g) g.rows j
columns_count g j l = flatten_occurrences j g.cols g.cell g.rows l
