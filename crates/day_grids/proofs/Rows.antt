-- The entries of a grid around one row: what comes before and after it does not depend on that row. Cited by every
-- change of a row; `emit` is the column or the value, so that one lemma serves both.
use Prim.Native.Nat.{ℕ, zero, suc, ◌+◌, ◌<◌}
use native.Mathlib.Omega.{arith}
use native.Mathlib.Decide.{dec_lt}
use mathlib.Core.Path.{◌≡◌, refl, ap, ◌∙◌}
use mathlib.Core.List.{List, [], ◌++◌, append-nil, append_assoc}
use lib.ListN.{length, length-append}
use borrow.Author.Tests.{eq-eqb, ne_eqb}
use Rattle.grid.specs.Cell.{Cell}
use Rattle.grid.specs.Grid.{Grid}
use Rattle.grid.specs.Entries.{column, gather, flatten, entry_count}
use Rattle.grid.proofs.Gather.{gather_same, flatten_same}
use Rattle.day_grids.specs.Day.{with_row}

-- a grid with one row changed: that row, and all others
module _ (g : Grid) (i : ℕ) (row : ℕ → Cell) where
  pub row_here : (c : ℕ) → (with_row g i row).cell i c ≡ row c
  row_here c = rw (eq-eqb i i refl)

  pub row_other : (r c : ℕ) → (r ≡ i → ⊥) → (with_row g i row).cell r c ≡ g.cell r c
  row_other r c f = rw (ne_eqb r i f)

module _ {A : Type 0} (emit : ℕ → ℕ → A) where
  -- the first k rows of any cells that are `cell` but for row i
  pub record RowAround (n : ℕ) (cell : ℕ → ℕ → Cell) (i k : ℕ) : Type 0 where
    pub rest : List A
    pub joined : (f : ℕ → ℕ → Cell) → ((r c : ℕ) → (r ≡ i → ⊥) → f r c ≡ cell r c)
        → flatten emit n f k ≡ flatten emit n cell i ++ (gather emit n (f i) ++ rest)

  -- what comes behind row i is the same for all of them
  pub row_around : (n : ℕ) (cell : ℕ → ℕ → Cell) (i k : ℕ) → i < k → RowAround n cell i k
  unfolding flatten
  row_around n cell i zero l = absurd (omega arith)
  row_around n cell i (suc k) l = go (dec_lt i k) (λ d. row_around n cell i k d)
    where
      go : Dec (i < k) → (i < k → RowAround n cell i k) → RowAround n cell i (suc k)
      go (yes d) h =
          let w = h d in
          record {
            rest = w.rest ++ gather emit n (cell k);
            joined = λ f s.
                rw (w.joined f s, gather_same emit n (f k) (cell k) (λ c q. s k c (λ e. omega arith)))
                (simp append_assoc);
          }
      go (no d) h =
          let e : k ≡ i = omega arith in
          record {
            rest = [];
            joined = λ f s. rw (e, append-nil)
                (ap (λ (l : List A). l ++ gather emit n (f i))
                (flatten_same emit n f cell i (λ r c p q. s r c (λ u. omega arith))));
          }

  -- how many there are
  pub row_around_length : {n : ℕ} {cell : ℕ → ℕ → Cell} {i k : ℕ} (w : RowAround n cell i k) (f : ℕ → ℕ → Cell)
      → ((r c : ℕ) → (r ≡ i → ⊥) → f r c ≡ cell r c)
      → length (flatten emit n f k)
      ≡ length (flatten emit n cell i) + length (gather emit n (f i)) + length w.rest
  row_around_length w f s = ap length (w.joined f s) ∙ simp length-append (omega arith)

  -- the entries of the row that was put in
  pub gather_here : (n : ℕ) (g : Grid) (i : ℕ) (row : ℕ → Cell)
      → gather emit n ((with_row g i row).cell i) ≡ gather emit n row
  gather_here n g i row = gather_same emit n ((with_row g i row).cell i) row (λ c q. row_here g i row c)

-- a row gives way to another
pub with_row_count : (g : Grid) (i : ℕ) (row : ℕ → Cell) → i < g.rows
    → entry_count (with_row g i row) + length (gather column g.cols (g.cell i))
    ≡ entry_count g + length (gather column g.cols row)
with_row_count g i row l =
    let w = row_around column g.cols g.cell i g.rows l in
    omega (
      arith,
      row_around_length column w g.cell (λ r c f. refl),
      row_around_length column w (with_row g i row).cell (row_other g i row),
      ap length (gather_here column g.cols g i row),
    )
