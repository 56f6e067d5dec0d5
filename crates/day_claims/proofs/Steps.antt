-- A step of a list keeps the pair and the plain grid alike.
use Rattle.std.proofs.Common.{None, Some}
use Prim.Native.Nat.{ℕ}
use native.Mathlib.Omega.{arith}
use mathlib.Core.Path.{◌≡◌, refl, ◌∙◌}
use mathlib.Core.List.{List}
use mathlib.Core.Bool.{Bool, true, false, cond}
use lib.Dec.{eqb}
use borrow.Author.Tests.{eqb-true}
use Rattle.answers.specs.Answers.{Answer}
use Rattle.grid.specs.Cell.{Cell}
use Rattle.grid.specs.Grid.{Grid, Same}
use Rattle.matrix.specs.Layout.{rows, cols, cell_of, grid_of}
use Rattle.encoding.specs.Encode.{updated_to}
use Rattle.day_grids.specs.Day.{through_pair, with_row, no_entries}
use Rattle.day_grids.proofs.Through.{rewritten_through, taken_through, through_same, same_row}
use Rattle.day_requests.specs.Refusal.{back_refusal}
use Rattle.day_requests.specs.Ready.{Pair}
use Rattle.day_requests.proofs.Readiness.{rewrite_ready, back_ready}
use Rattle.day_folds.specs.Folding.{lent_fold}
use Rattle.day_calls.specs.Calls.{
  day_with,
  marks_with,
  day_without,
  marks_without,
  rewriting_refusal,
  Rewritten,
  TakenBack,
}
use Rattle.day_claims.specs.Plain.{plain_rewritten, plain_taken}
use Rattle.day_claims.proofs.Accepted.{accepted_none, rewrite_none, rewrite_few}
use Rattle.day_claims.proofs.Written.{
  Holds,
  written_holds,
  row_within,
  without_few,
  mark_within,
  day_kept,
}

-- the pair fits together, and shows the plain grid
pub record Kept (base day marks : List ℕ) (g : Grid) : Type 0 where
  pub pair : Pair base day marks
  pub same : Same (lent_fold base day marks) g

-- a row of the pair and of the plain grid is changed to `row`: from the grids that were written
module _ {base day marks day' marks' : List ℕ} {g : Grid} (k : Kept base day marks g) (i : ℕ) (row : ℕ → Cell)
    (d m : Grid) (x : Holds d day') (y : Holds m marks') (dr : d.rows ≡ rows day) (dc : d.cols ≡ cols day)
    (mr : m.rows ≡ rows marks) (mc : m.cols ≡ cols marks)
    (t : (r c : ℕ) → through_pair (grid_of base) d m r c ≡ (with_row (lent_fold base day marks) i row).cell r c) where
  pub changed_kept : Kept base day' marks' (with_row g i row)
  changed_kept =
      let p = k.pair in
      let o = p.over in
      record {
        pair = record {
          base_valid = p.base_valid;
          over = day_kept d m o dr mr mc x y;
          same_rows = x.same.rows ∙ dr ∙ p.same_rows;
          same_cols = x.same.cols ∙ dc ∙ p.same_cols;
        };
        same = record {
          rows = k.same.rows;
          cols = k.same.cols;
          cell = λ r c l n.
              through_same (grid_of base) (grid_of day') (grid_of marks') d m r c x.same y.same
              (omega (arith, mr, o.one_row))
              (omega (arith, mc, o.mark_rows, p.same_rows, k.same.rows))
              (omega (arith, dr, p.same_rows, k.same.rows))
              (omega (arith, dc, p.same_cols, k.same.cols))
              ∙ t r c
              ∙ (same_row (lent_fold base day marks) g i row row k.same (λ j e. refl)).cell r c l n;
        };
      }

module _ {base day marks day' marks' : List ℕ} {g : Grid} (k : Kept base day marks g) (i : ℕ) where
  -- a rewrite
  pub step_rewritten : (new : List ℕ) (answer : Answer) → Rewritten day marks i new answer day' marks'
      → Kept base day' marks' (plain_rewritten answer i (grid_of new) g)
  step_rewritten new answer h = go (eqb answer.code 0) refl h.day_is h.marks_are
    where
      go : (b : Bool) → eqb answer.code 0 ≡ b
          → day' ≡ cond b (updated_to (day_with day i new) day) day
          → marks' ≡ cond b (updated_to (marks_with marks i) marks) marks
          → Kept base day' marks' (cond b (with_row g i (cell_of new 0)) g)
      go false e a b = rw (a, b) k
      go true e a b =
          let z = accepted_none (rewriting_refusal day marks i new) (day_with day i new) answer h.answer_is
          (eqb-true _ _ e) in
          let r = (rewrite_ready day marks i new (rewrite_none day marks i new z)).back.over in
          changed_kept k i (cell_of new 0) (day_with day i new) (marks_with marks i)
          (written_holds _ (day_with day i new) day day'
          (row_within i (cell_of new 0) r.day_valid (rewrite_few day marks i new z)) a)
          (written_holds _ (marks_with marks i) marks marks' (mark_within i (Some 1) r.marks_valid r.one_row) b)
          refl refl refl refl
          (rewritten_through (grid_of base) (grid_of day) (grid_of marks) i (grid_of new))

  -- a taking back
  pub step_taken : (answer : Answer) → TakenBack day marks i answer day' marks'
      → Kept base day' marks' (plain_taken answer i (grid_of base) g)
  step_taken answer h = go (eqb answer.code 0) refl h.day_is h.marks_are
    where
      go : (b : Bool) → eqb answer.code 0 ≡ b
          → day' ≡ cond b (updated_to (day_without day i) day) day
          → marks' ≡ cond b (updated_to (marks_without marks i) marks) marks
          → Kept base day' marks' (cond b (with_row g i (cell_of base i)) g)
      go false e a b = rw (a, b) k
      go true e a b =
          let z = accepted_none (back_refusal day marks i) (day_without day i) answer h.answer_is (eqb-true _ _ e) in
          let w = back_ready day marks i z in
          let r = w.over in
          changed_kept k i (cell_of base i) (day_without day i) (marks_without marks i)
          (written_holds _ (day_without day i) day day' (row_within i no_entries r.day_valid (without_few w)) a)
          (written_holds _ (marks_without marks i) marks marks' (mark_within i None r.marks_valid r.one_row) b)
          refl refl refl refl
          (taken_through (grid_of base) (grid_of day) (grid_of marks) i)
