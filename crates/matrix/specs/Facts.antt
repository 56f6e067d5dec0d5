-- What the tests of Valid.antt say, as facts on numbers: what functions on valid words require. Each record is proved to
-- hold exactly where its test does (proofs/Facts.antt); RowSpan, which has none, follows from Starts.
use Rattle.std.specs.Prelude.{ℕ, ◌+◌, ◌≤◌, ◌<◌, ◌≡◌, List, true, length}
use Rattle.limits.specs.Limits.{max_rows, max_cols, max_entries}
pub use Rattle.limits.specs.Ranges.{InRange}
use Rattle.rows.specs.Row.{rising}
use Rattle.matrix.specs.Layout.{
  revision_count,
  shape_count,
  rows,
  cols,
  start_count,
  start,
  entries,
  entries_again,
  size,
  row_columns,
}

pub record Header (s : List ℕ) : Type 0 where
  pub one : revision_count s ≡ 1
  pub two : shape_count s ≡ 2
  pub row_range : InRange max_rows (rows s)
  pub col_range : InRange max_cols (cols s)
  pub starts : start_count s ≡ rows s + 1
  pub few : entries s ≤ max_entries
  pub fits : size s ≤ length s
  pub again : entries_again s ≡ entries s

pub record Starts (s : List ℕ) : Type 0 where
  pub first : start s 0 ≡ 0
  pub last : start s (rows s) ≡ entries s
  pub up : (i : ℕ) → i < rows s → start s i ≤ start s (i + 1)

-- row i, and where its entries lie among all of them
pub record RowSpan (s : List ℕ) (i : ℕ) : Type 0 where
  pub row : i < rows s
  pub up : start s i ≤ start s (i + 1)
  pub top : start s (i + 1) ≤ entries s

-- all that a valid matrix is
pub record Matrix (s : List ℕ) : Type 0 where
  pub header : Header s
  pub starts : Starts s
  pub rising : (i : ℕ) → i < rows s → rising (cols s) 0 (row_columns s i) ≡ true
