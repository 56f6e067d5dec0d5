-- What the functions that replace a row in place require and leave.
use Rattle.std.specs.Prelude.{ℕ, ◌+◌, ◌-◌, ◌≤◌, ◌<◌, ◌≡◌, List, length, set}
use Rattle.limits.specs.Limits.{max_rows, max_entries}
use Rattle.words.specs.Words.{at, overwrite}
use Rattle.rows.specs.Row.{Row}
use Rattle.matrix.specs.Layout.{
  count_at,
  columns_at,
  count_again_at,
  values_at,
  size_of,
  rows,
  cols,
  start,
  entries,
}
use Rattle.matrix.specs.Facts.{Matrix}

-- how many entries a matrix has when those from a up to b give way to k others
abbrev pub count_with : ℕ → ℕ → ℕ → ℕ → ℕ
count_with n a b k = n + k + a - b

-- a row of a valid matrix, another row for it, and room for that
pub record Replaceable (s : List ℕ) (i : ℕ) (cs vs : List ℕ) : Type 0 where
  pub matrix : Matrix s
  pub row : i < rows s
  pub new : Row (cols s) cs vs
  pub few : count_with (entries s) (start s i) (start s (i + 1)) (length cs) ≤ max_entries
  pub space : size_of (rows s) (count_with (entries s) (start s i) (start s (i + 1)) (length cs)) ≤ length s

-- room for k entries can be made in place of those from a up to b, in a matrix of r rows and n entries
pub record RoomBounds (r n a b k : ℕ) (s : List ℕ) : Type 0 where
  pub rows : r ≤ max_rows
  pub few : n ≤ max_entries
  pub span : a ≤ b
  pub top : b ≤ n
  pub more : k ≤ max_entries
  pub old : size_of r n ≤ length s
  pub space : size_of r (count_with n a b k) ≤ length s

-- t is s with that room: the words before it, the columns behind it with the count and the values before it, the values
-- behind it, the words past the matrix
pub record Opened (r n a b k : ℕ) (s t : List ℕ) : Type 0 where
  pub same : length t ≡ length s
  pub before : (x : ℕ) → x < columns_at r + a → at t x ≡ at s x
  pub middle : (x : ℕ) → x < n - b + 1 + a → at t (columns_at r + a + k + x) ≡ at s (columns_at r + b + x)
  pub behind : (x : ℕ) → x < n - b
      → at t (values_at r (count_with n a b k) + a + k + x) ≡ at s (values_at r n + b + x)
  pub spare : (x : ℕ) → size_of r (count_with n a b k) ≤ x → at t x ≡ at s x

-- a row can be put after the first a of n entries
pub record PutBounds (r n a : ℕ) (cs vs s : List ℕ) : Type 0 where
  pub rows : r ≤ max_rows
  pub few : n ≤ max_entries
  pub even : length vs ≡ length cs
  pub inside : a + length cs ≤ n
  pub space : size_of r n ≤ length s

-- its columns, its values, and the counts
abbrev pub row_put : ℕ → ℕ → ℕ → List ℕ → List ℕ → List ℕ → List ℕ
row_put r n a cs vs s =
    set (set (overwrite (values_at r n + a) vs (overwrite (columns_at r + a) cs s)) (count_at r) n) (count_again_at r n) n
