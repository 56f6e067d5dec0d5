-- What is known where none of the refusals applies.
use Prim.Native.Nat.{ℕ, ◌<◌}
use mathlib.Core.Path.{◌≡◌, refl, sym, ◌∙◌}
use mathlib.Core.List.{List}
use mathlib.Core.Bool.{true, not, cond}
use lib.Dec.{eqb}
use borrow.Author.Tests.{not-false, eqb-true, leb-false}
use Rattle.conditions.proofs.Tests.{and_left, and_right}
use Rattle.grid.specs.Grid.{Grid}
use Rattle.matrix.specs.Layout.{rows, cols, grid_of}
use Rattle.matrix.specs.Facts.{Matrix}
use Rattle.matrix.specs.Valid.{valid}
use Rattle.matrix.proofs.Facts.{matrix_facts}
use Rattle.refusals.proofs.Cases.{later}
use Rattle.day_requests.specs.Refusal.{
  same_shape,
  is_vector,
  day_refusal,
  pair_refusal,
  read_refusal,
  rewrite_refusal,
  back_refusal,
}
use Rattle.day_requests.specs.Ready.{Pair, Readable, Backable, Rewritable}

-- matrices of one shape have the same rows and columns
same_facts : (base day : Grid) → same_shape base day ≡ true → (day.rows ≡ base.rows) × (day.cols ≡ base.cols)
unfolding same_shape
same_facts base day h =
    (eqb-true _ _ (and_left (eqb day.rows base.rows) _ h), eqb-true _ _ (and_right (eqb day.rows base.rows) _ h))

-- a vector has one row and n columns
vector_facts : (g : Grid) (n : ℕ) → is_vector g n ≡ true → (g.rows ≡ 1) × (g.cols ≡ n)
unfolding is_vector
vector_facts g n h =
    (eqb-true _ _ (and_left (eqb g.rows 1) _ h), eqb-true _ _ (and_right (eqb g.rows 1) _ h))

-- where neither 4 nor 5 applies
module _ (day marks : List ℕ) (h : 0 ≡ day_refusal day marks) where
  pub day_matrix : Matrix day
  unfolding day_refusal
  day_matrix = matrix_facts day (not-false _ (later _ 4 _ refl (sym h)).here)

  pub marks_matrix : Matrix marks
  unfolding day_refusal
  marks_matrix =
      let k = later (not (valid day)) 4 (cond (not (valid marks)) 5 0) refl (sym h) in
      matrix_facts marks (not-false _ (later (not (valid marks)) 5 0 refl k.rest).here)

-- three matrices that fit together
pair_made : {base day marks : List ℕ} → valid base ≡ true → valid day ≡ true → valid marks ≡ true
    → same_shape (grid_of base) (grid_of day) ≡ true → is_vector (grid_of marks) (rows base) ≡ true
    → Pair base day marks
pair_made {base} {day} {marks} a b c s v =
    let t = same_facts (grid_of base) (grid_of day) s in
    let u = vector_facts (grid_of marks) (rows base) v in
    record {
      base_valid = matrix_facts base a;
      over = record {
        day_valid = matrix_facts day b;
        marks_valid = matrix_facts marks c;
        one_row = u.0;
        mark_rows = u.1 ∙ sym t.0;
      };
      same_rows = t.0;
      same_cols = t.1;
    }

-- where folding is not refused by 3 to 8, and showing a row, they fit together
pub pair_ready : (base day marks : List ℕ) → pair_refusal base day marks ≡ 0 → Pair base day marks
unfolding pair_refusal
pair_ready base day marks h =
    let h₃ = later _ 3 _ refl h in
    let h₄ = later _ 4 _ refl h₃.rest in
    let h₅ = later _ 5 _ refl h₄.rest in
    let h₈ = later _ 8 _ refl h₅.rest in
    let k₈ = later _ 8 _ refl h₈.rest in
    pair_made (not-false _ h₃.here) (not-false _ h₄.here) (not-false _ h₅.here) (not-false _ h₈.here)
    (not-false _ k₈.here)

-- where reading a cell is not refused, they do, and have the cell
pub read_ready : (base day marks : List ℕ) (i j : ℕ) → read_refusal base day marks i j ≡ 0
    → Readable base day marks i j
unfolding read_refusal
read_ready base day marks i j h =
    let h₃ = later _ 3 _ refl h in
    let h₄ = later _ 4 _ refl h₃.rest in
    let h₅ = later _ 5 _ refl h₄.rest in
    let h₇ = later _ 7 _ refl h₅.rest in
    let k₇ = later _ 7 _ refl h₇.rest in
    let h₈ = later _ 8 _ refl k₇.rest in
    let k₈ = later _ 8 _ refl h₈.rest in
    record {
      pair = pair_made (not-false _ h₃.here) (not-false _ h₄.here) (not-false _ h₅.here)
          (not-false _ h₈.here) (not-false _ k₈.here);
      row = leb-false _ _ h₇.here;
      col = leb-false _ _ k₇.here;
    }

-- a row of a day matrix with marks for its rows
back_made : {day marks : List ℕ} {i : ℕ} → valid day ≡ true → valid marks ≡ true → i < rows day
    → is_vector (grid_of marks) (rows day) ≡ true → Backable day marks i
back_made {day} {marks} a b l v =
    let u = vector_facts (grid_of marks) (rows day) v in
    record {
      over = record {
        day_valid = matrix_facts day a;
        marks_valid = matrix_facts marks b;
        one_row = u.0;
        mark_rows = u.1;
      };
      row = l;
    }

-- where taking back is not refused
pub back_ready : (day marks : List ℕ) (i : ℕ) → back_refusal day marks i ≡ 0 → Backable day marks i
unfolding back_refusal
back_ready day marks i h =
    let h₄ = later _ 4 _ refl h in
    let h₅ = later _ 5 _ refl h₄.rest in
    let h₇ = later _ 7 _ refl h₅.rest in
    let h₈ = later _ 8 _ refl h₇.rest in
    back_made (not-false _ h₄.here) (not-false _ h₅.here) (leb-false _ _ h₇.here) (not-false _ h₈.here)

-- where rewriting is not refused by 4 to 8, there is a new row that fits, too
pub rewrite_ready : (day marks : List ℕ) (i : ℕ) (new : List ℕ) → rewrite_refusal day marks i new ≡ 0
    → Rewritable day marks i new
unfolding rewrite_refusal
rewrite_ready day marks i new h =
    let h₄ = later _ 4 _ refl h in
    let h₅ = later _ 5 _ refl h₄.rest in
    let h₆ = later _ 6 _ refl h₅.rest in
    let h₇ = later _ 7 _ refl h₆.rest in
    let h₈ = later _ 8 _ refl h₇.rest in
    let k₈ = later _ 8 _ refl h₈.rest in
    let u = vector_facts (grid_of new) (cols day) (not-false _ k₈.here) in
    record {
      back = back_made (not-false _ h₄.here) (not-false _ h₅.here) (leb-false _ _ h₇.here)
          (not-false _ h₈.here);
      new_valid = matrix_facts new (not-false _ h₆.here);
      new_row = u.0;
      new_cols = u.1;
    }
