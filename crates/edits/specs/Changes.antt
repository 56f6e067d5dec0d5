-- What the functions that change a matrix in place require and leave.
use Rattle.std.specs.Prelude.{ℕ, ◌+◌, ◌-◌, ◌≤◌, ◌<◌, ◌≡◌, List, length, set}
use Rattle.limits.specs.Limits.{max_rows, max_entries}
use Rattle.words.specs.Words.{at, part, overwrite}
use Rattle.grid.specs.Cell.{Cell}
use Rattle.grid.specs.Update.{with_cell}
use Rattle.matrix.specs.Layout.{
  count_at,
  columns_at,
  count_again_at,
  values_at,
  size_of,
  rows,
  cols,
  entries,
  size,
  grid_of,
}
use Rattle.matrix.specs.Facts.{Matrix}
use Rattle.encoding.specs.Encode.{updated_to}

-- a row and a column of a valid matrix
pub record InMatrix (s : List ℕ) (i j : ℕ) : Type 0 where
  pub matrix : Matrix s
  pub row : i < rows s
  pub col : j < cols s

-- one entry more is within the limit, and its two words are within the buffer
pub record HasSpace (s : List ℕ) : Type 0 where
  pub few : entries s < max_entries
  pub space : size s + 2 ≤ length s

-- the words with the cell at row i and column j changed to x, and the next revision: "Each accepted call that writes into a
-- sheet adds one to that sheet's revision"
abbrev pub updated : List ℕ → ℕ → ℕ → Cell → List ℕ
updated s i j x = updated_to (with_cell (grid_of s) i j x) s

-- a later row start, where entries are put in and taken out before it
abbrev pub shifted : ℕ → ℕ → ℕ → ℕ
shifted more less x = x + more - less

-- t is s with f done to each word from a up to, and not including, e
pub record Mapped (f : ℕ → ℕ) (a e : ℕ) (s t : List ℕ) : Type 0 where
  pub same : length t ≡ length s
  pub before : (k : ℕ) → k < a → at t k ≡ at s k
  pub within : (k : ℕ) → a ≤ k → k < e → at t k ≡ f (at s k)
  pub after : (k : ℕ) → e ≤ k → at t k ≡ at s k

-- each word from a up to e is at least `low`, and at most `high`
pub record Bounded (low high a e : ℕ) (s : List ℕ) : Type 0 where
  pub ordered : a ≤ e
  pub inside : e ≤ length s
  pub least : (k : ℕ) → a ≤ k → k < e → low ≤ at s k
  pub most : (k : ℕ) → a ≤ k → k < e → at s k ≤ high

-- n words from `from` on, written again from `to` on
abbrev pub moved : ℕ → ℕ → ℕ → List ℕ → List ℕ
moved from to n s = overwrite to (part from (from + n) s) s

-- an entry can be put at position p into a matrix of r rows and n entries
pub record PutBounds (r n p : ℕ) (s : List ℕ) : Type 0 where
  pub rows : r ≤ max_rows
  pub few : n < max_entries
  pub position : p ≤ n
  pub space : size_of r n + 2 ≤ length s

-- the values from p on move up by two; the columns from p on, the count and the values before p by one
abbrev pub spread : ℕ → ℕ → ℕ → List ℕ → List ℕ
spread r n p s =
    moved (columns_at r + p) (columns_at r + p + 1) (n + 1)
    (moved (values_at r n + p) (values_at r n + p + 2) (n - p) s)

-- and the entry and the counts in their places
abbrev pub entry_put : ℕ → ℕ → ℕ → ℕ → ℕ → List ℕ → List ℕ
entry_put r n p j v s =
    set (set (set (set (spread r n p s) (columns_at r + p) j) (values_at r n + p + 1) v) (count_at r) (n + 1))
    (count_again_at r (n + 1)) (n + 1)

-- entry p of a matrix of r rows and n entries can be taken out
pub record TakeBounds (r n p : ℕ) (s : List ℕ) : Type 0 where
  pub rows : r ≤ max_rows
  pub few : n ≤ max_entries
  pub position : p < n
  pub space : size_of r n ≤ length s

-- the columns behind p, the count and the values before p move down by one, the values behind p by two
abbrev pub closed : ℕ → ℕ → ℕ → List ℕ → List ℕ
closed r n p s =
    moved (values_at r n + p + 1) (values_at r n + p - 1) (n - p - 1)
    (moved (columns_at r + p + 1) (columns_at r + p) n s)

-- and the counts in their places
abbrev pub entry_taken : ℕ → ℕ → ℕ → List ℕ → List ℕ
entry_taken r n p s =
    set (set (closed r n p s) (count_at r) (n - 1)) (count_again_at r (n - 1)) (n - 1)
