-- The words of a matrix that are no row starts, column numbers or values: the revision, the shape and the counts of the
-- sections.
-- What `write_header` requires and leaves.
use Rattle.std.specs.Prelude.{ℕ, ◌+◌, ◌≤◌, ◌≡◌, List, length, set}
use Rattle.limits.specs.Limits.{max_rows}
use Rattle.words.specs.Words.{at}
use Rattle.grid.specs.Revision.{next_revision}
use Rattle.matrix.specs.Layout.{
  revision_count_at,
  revision_at,
  shape_count_at,
  rows_at,
  cols_at,
  start_count_at,
  count_at,
  count_again_at,
  size_of,
  revision_count,
  revision,
  shape_count,
  rows,
  cols,
  start_count,
}

-- a matrix of r rows and n entries has room in the words
pub record HeaderBounds (r n : ℕ) (w : List ℕ) : Type 0 where
  pub rows : r ≤ max_rows
  pub fits : size_of r n ≤ length w

-- the words with another revision
abbrev pub with_revision : ℕ → List ℕ → List ℕ
with_revision v w = set w revision_at v

-- the words with the next one
abbrev pub touched : List ℕ → List ℕ
touched w = with_revision (next_revision (revision w)) w

-- "1, then a revision number", which of a new matrix is 0
abbrev pub unrevised : List ℕ → List ℕ
unrevised w = with_revision 0 (set w revision_count_at 1)

-- the words with the header of a new matrix of r rows, c columns and n entries: its revision, "2, then rows R,
-- columns C", "R+1", "N" and "N"
abbrev pub headed : ℕ → ℕ → ℕ → List ℕ → List ℕ
headed r c n w =
    set (set (set (set (set (set (unrevised w) shape_count_at 2) rows_at r) cols_at c) start_count_at (r + 1)) (count_at r) n)
    (count_again_at r n) n

-- that header stands in the words, with any revision
pub record HeaderOf (r c n : ℕ) (s : List ℕ) : Type 0 where
  pub one : revision_count s ≡ 1
  pub two : shape_count s ≡ 2
  pub row_count : rows s ≡ r
  pub col_count : cols s ≡ c
  pub start_count : start_count s ≡ r + 1
  pub count : at s (count_at r) ≡ n
  pub again : at s (count_again_at r n) ≡ n
