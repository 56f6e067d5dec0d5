-- What is read through the pair after a row was rewritten, and after that was taken back. Cited by the claims.
use Prim.Native.Nat.{ℕ, ◌<◌}
use native.Mathlib.Decide.{ℕ_discrete}
use mathlib.Core.Path.{◌≡◌, refl, ap, ◌∙◌}
use mathlib.Core.Bool.{Bool, true, false, cond, true≢false, false≢true}
use borrow.Author.Tests.{eq-eqb, ne_eqb}
use Rattle.grid.specs.Cell.{Cell}
use Rattle.grid.specs.Grid.{Grid, Same}
use Rattle.day_grids.specs.Day.{
  marking,
  marked,
  through_pair,
  folded,
  with_row,
  no_entries,
  rewritten_day,
  rewritten_marks,
  taken_day,
  taken_marks,
}
use Rattle.day_grids.proofs.Rows.{row_here, row_other}

-- the marks: of the row, and of any other
module _ (marks : Grid) (i : ℕ) where
  marked_here : marked (rewritten_marks marks i) i ≡ true
  unfolding marking
  marked_here = rw (eq-eqb i i refl)

  unmarked_here : marked (taken_marks marks i) i ≡ false
  unfolding marking
  unmarked_here = rw (eq-eqb i i refl)

  marked_other : (r : ℕ) → (r ≡ i → ⊥) → marked (rewritten_marks marks i) r ≡ marked marks r
  marked_other r f = rw (ne_eqb r i f)

  unmarked_other : (r : ℕ) → (r ≡ i → ⊥) → marked (taken_marks marks i) r ≡ marked marks r
  unmarked_other r f = rw (ne_eqb r i f)

-- a cell of a row that is marked as before
cond_cell : (a b : Bool) (x y x' y' : Grid) (r j : ℕ) → a ≡ b → x.cell r j ≡ x'.cell r j
    → y.cell r j ≡ y'.cell r j → (cond a x y).cell r j ≡ (cond b x' y').cell r j
cond_cell true true x y x' y' r j e f g = f
cond_cell false false x y x' y' r j e f g = g
cond_cell true false x y x' y' r j e f g = absurd (true≢false e)
cond_cell false true x y x' y' r j e f g = absurd (false≢true e)

module _ (base day marks : Grid) (i : ℕ) where
  -- "after a rewrite the row reads as the new row and every other row as before": through the pair it is the folded grid
  -- with that row
  pub rewritten_through : (new : Grid) (r j : ℕ)
      → through_pair base (rewritten_day day i new) (rewritten_marks marks i) r j
      ≡ (with_row (folded base day marks) i (new.cell 0)).cell r j
  rewritten_through new r j = go (ℕ_discrete r i)
    where
      go : Dec (r ≡ i) → through_pair base (rewritten_day day i new) (rewritten_marks marks i) r j
          ≡ (with_row (folded base day marks) i (new.cell 0)).cell r j
      go (yes e) =
          rw e (ap (λ (b : Bool). (cond b (rewritten_day day i new) base).cell i j) (marked_here marks i)
          ∙ rw (eq-eqb i i refl))
      go (no f) =
          cond_cell _ _ (rewritten_day day i new) base day base r j (marked_other marks i r f)
          (row_other day i (new.cell 0) r j f) refl
          ∙ rw (ne_eqb r i f)

  -- "taking it back gives the base's row"
  pub taken_through : (r j : ℕ)
      → through_pair base (taken_day day i) (taken_marks marks i) r j
      ≡ (with_row (folded base day marks) i (base.cell i)).cell r j
  taken_through r j = go (ℕ_discrete r i)
    where
      go : Dec (r ≡ i) → through_pair base (taken_day day i) (taken_marks marks i) r j
          ≡ (with_row (folded base day marks) i (base.cell i)).cell r j
      go (yes e) =
          rw e (ap (λ (b : Bool). (cond b (taken_day day i) base).cell i j) (unmarked_here marks i)
          ∙ rw (eq-eqb i i refl))
      go (no f) =
          cond_cell _ _ (taken_day day i) base day base r j (unmarked_other marks i r f)
          (row_other day i no_entries r j f) refl
          ∙ rw (ne_eqb r i f)

-- grids that agree read alike
pub through_same : (base day marks day' marks' : Grid) (i j : ℕ) → Same day day' → Same marks marks'
    → 0 < marks'.rows → i < marks'.cols → i < day'.rows → j < day'.cols
    → through_pair base day marks i j ≡ through_pair base day' marks' i j
through_same base day marks day' marks' i j s m a b c d =
    cond_cell _ _ day base day' base i j (ap marking (m.cell 0 i a b)) (s.cell i j c d) refl

-- a changed row of grids that agree
pub same_row : (g h : Grid) (i : ℕ) (row row' : ℕ → Cell) → Same g h → ((j : ℕ) → j < h.cols → row j ≡ row' j)
    → Same (with_row g i row) (with_row h i row')
same_row g h i row row' s e = record {
  rows = s.rows;
  cols = s.cols;
  cell = λ r c l m. go r c l m (ℕ_discrete r i);
}
  where
    go : (r c : ℕ) → r < h.rows → c < h.cols → Dec (r ≡ i)
        → (with_row g i row).cell r c ≡ (with_row h i row').cell r c
    go r c l m (yes d) = rw (eq-eqb r i d) (e c m)
    go r c l m (no d) = rw (ne_eqb r i d) (s.cell r c l m)
