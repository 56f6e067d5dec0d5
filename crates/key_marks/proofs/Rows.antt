-- Stamps of the rows of a matrix: one row where it is named, and those before row i.
use Prim.Native.Nat.{ℕ, ◌+◌, ◌≤◌, ◌<◌}
use native.Mathlib.Omega.{arith}
use mathlib.Core.Path.{◌≡◌, refl, sym, ap}
use mathlib.Core.List.{List}
use mathlib.Core.Bool.{Bool}
use Rattle.words.specs.Words.{at}
use Rattle.conditions.specs.Tests.{◌and◌}
use Rattle.rows.proofs.Rising.{rising_below}
use Rattle.matrix.specs.Layout.{rows, cols, row_columns, row_values, cell_of, grid_of}
use Rattle.matrix.specs.Facts.{Header, RowSpan, Matrix}
use Rattle.matrix.proofs.Rows.{row_even}
use Rattle.key_rounds.specs.Rounds.{filled, some, reached}
use Rattle.key_rounds.proofs.Tests.{some_next}
use Rattle.key_marks.specs.Marks.{mark, held, has, Below, Stamped}
use Rattle.key_marks.proofs.Stamps.{mark_zero, mark_other, has_lookup, stamped_none, stamped_same, stamped_then}

-- the column numbers of a row are places
pub row_below : {m : List ℕ} {n : ℕ} → Matrix m → n ≡ cols m → (i : ℕ) → i < rows m → Below n (row_columns m i)
row_below {m} v e i l = record
    { below = λ p u. omega (arith, e, rising_below (cols m) 0 (row_columns m i) (v.rising i l) p u) }

-- the columns of the named rows before row i
abbrev pub before : List ℕ → List ℕ → ℕ → ℕ → Bool
before m from i j = some i (λ r. held from r and filled (cell_of m r j))

module _ {s : ℕ} (m : List ℕ) where
  -- a row that is not named
  pub row_unnamed : (i named : ℕ) (old : List ℕ) → named ≡ 0
      → Stamped s (λ j. mark named and filled (cell_of m i j)) old old
  unfolding ◌and◌
  row_unnamed i named old e = stamped_none _ old (λ j. rw (mark_zero named e))

  -- a row that is
  pub row_named : (i named : ℕ) {old new : List ℕ} → Header m → RowSpan m i → (named ≡ 0 → ⊥)
      → Stamped s (has (row_columns m i)) old new → Stamped s (λ j. mark named and filled (cell_of m i j)) old new
  unfolding ◌and◌ cell_of
  row_named i named h r e t =
      stamped_same t (λ j. rw (mark_other named e) (has_lookup (row_columns m i) (row_values m i) j (row_even m i h r)))

  -- the rows one after another
  pub rows_none : (from old : List ℕ) → Stamped s (before m from 0) old old
  unfolding some
  rows_none from old = stamped_none _ old (λ j. refl)

  pub rows_next : (from : List ℕ) (i : ℕ) {old mid new : List ℕ} → 1 ≤ s → Stamped s (before m from i) old mid
      → Stamped s (λ j. mark (at from i) and filled (cell_of m i j)) mid new → Stamped s (before m from (i + 1)) old new
  rows_next from i l a b =
      stamped_same (stamped_then l a b) (λ j. sym (some_next i (λ r. held from r and filled (cell_of m r j))))

  pub rows_all : (from : List ℕ) (i : ℕ) {old new : List ℕ} → Stamped s (before m from i) old new → i ≡ rows m
      → Stamped s (reached (grid_of m) (held from)) old new
  unfolding reached
  rows_all from i a e =
      stamped_same a (λ j. ap (λ (n : ℕ). some n (λ r. held from r and filled (cell_of m r j))) e)
