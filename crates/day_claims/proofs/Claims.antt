-- The claims of specs/Claims.antt.
use Prim.Native.Nat.{ℕ, ◌<◌}
use native.Mathlib.Omega.{arith}
use mathlib.Core.Path.{◌≡◌, sym, ap, subst, ◌∙◌}
use mathlib.Core.List.{List}
use mathlib.Core.Bool.{Bool, cond}
use lib.ListN.{length}
use lib.Dec.{eqb}
use borrow.Author.Tests.{eq-eqb, ne_eqb}
use Rattle.answers.specs.Answers.{Answer}
use Rattle.answers.specs.Answers.{CellAnswer}
use Rattle.answers.specs.Results.{answer, cell_answer}
use Rattle.grid.specs.Cell.{Cell}
use Rattle.grid.specs.Grid.{Grid}
use Rattle.grid.proofs.Same.{same_refl}
use Rattle.matrix.specs.Layout.{rows, cols, cell_of, grid_of}
use Rattle.matrix.proofs.Facts.{matrix_made}
use Rattle.cells.proofs.Cases.{read_found}
use Rattle.day_grids.specs.Day.{with_row}
use Rattle.day_requests.specs.Refusal.{pair_refusal}
use Rattle.day_requests.proofs.Readiness.{pair_ready}
use Rattle.day_folds.specs.Folding.{lent_fold}
use Rattle.day_calls.specs.Calls.{through_answer, fold_refusal, Folded}
use Rattle.day_calls.proofs.rewrite_row.Met as rewrite_met
use Rattle.day_calls.proofs.rewrite_row.Reads as rewrite_reads
use Rattle.day_calls.proofs.take_back.Met as back_met
use Rattle.day_calls.proofs.take_back.Reads as back_reads
use Rattle.day_calls.proofs.read_through.Met as read_met
use Rattle.day_calls.proofs.read_through.Reads as read_reads
use Rattle.day_calls.proofs.fold.Met as fold_met
use Rattle.day_calls.proofs.fold.Reads as fold_reads
use Rattle.day_claims.specs.Plain.{cell_read}
use Rattle.day_claims.specs.Claims.{RowReads, Run, done, rewrote, took, Claims}
use Rattle.day_claims.proofs.Accepted.{accepted_none, accepted_words, fold_none, fold_few}
use Rattle.day_claims.proofs.Written.{Holds, written_holds}
use Rattle.day_claims.proofs.Reading.{ReadAs, found_read, through_read, readable}
use Rattle.day_claims.proofs.Steps.{Kept, step_rewritten, step_taken}

-- a whole list
run_kept : (base : List ℕ) {day marks day' marks' : List ℕ} {g g' : Grid}
    → Run (grid_of base) day marks g day' marks' g' → Kept base day marks g → Kept base day' marks' g'
run_kept base done k = k
run_kept base (rewrote κs p i new f t r) k = run_kept base r (step_rewritten k i new (answer f) t)
run_kept base (took κs p i f t r) k = run_kept base r (step_taken k i (answer f) t)

-- a read of a folded matrix
module _ (base day marks out out' : List ℕ) (a : Answer) (h : Folded base day marks out a out')
    (e : a.code ≡ 0) where
  z : fold_refusal base day marks (length out) ≡ 0
  z = accepted_none (fold_refusal base day marks (length out)) (lent_fold base day marks) a h.answer_is e

  pub folded_holds : Holds (lent_fold base day marks) out'
  folded_holds =
      let p = pair_ready base day marks (fold_none base day marks (length out) z) in
      written_holds 0 (lent_fold base day marks) out out'
      (record {
        row_range = p.base_valid.header.row_range;
        col_range = p.base_valid.header.col_range;
        few = fold_few base day marks (length out) z;
      })
      (accepted_words a out _ out' h.words_are e)

  pub folded_read : (i j : ℕ) → i < rows base → j < cols base → (r c : CellAnswer)
      → ReadAs r ((lent_fold base day marks).cell i j) → ReadAs c ((grid_of out').cell i j)
      → (r.code ≡ 0) × (c.code ≡ 0) × (cell_read r ≡ cell_read c)
  folded_read i j l m r c x y =
      (x.code, y.code, x.cell ∙ sym (y.cell ∙ folded_holds.same.cell i j l m))

-- an answer that is known
as_read : {a b : CellAnswer} {x : Cell} → a ≡ b → ReadAs b x → ReadAs a x
as_read e r = record { code = ap (λ (u : CellAnswer). u.code) e ∙ r.code; cell = ap cell_read e ∙ r.cell }

-- a list begins with the grid that the pair shows
first_kept : (base day marks : List ℕ) → pair_refusal base day marks ≡ 0
    → Kept base day marks (lent_fold base day marks)
first_kept base day marks n =
    record { pair = pair_ready base day marks n; same = same_refl (lent_fold base day marks) }

-- a read through the pair is one of the plain grid
kept_read : {base day marks : List ℕ} {g : Grid} {a : CellAnswer} → Kept base day marks g → (i j : ℕ) → i < rows base
    → j < cols base → a ≡ through_answer base day marks i j → ReadAs a (g.cell i j)
kept_read {base} {day} {marks} k i j l m x =
    let t = as_read x (through_read base day marks i j (readable k.pair l m)) in
    record {
      code = t.code;
      cell = t.cell ∙ k.same.cell i j (omega (arith, k.same.rows)) (omega (arith, k.same.cols));
    }

-- after an accepted step the plain grid is the changed one
accepted_kept : {base day marks : List ℕ} (a : Answer) (g h : Grid) → a.code ≡ 0
    → Kept base day marks (cond (eqb a.code 0) g h) → Kept base day marks g
accepted_kept {base} {day} {marks} a g h e k =
    subst (λ (b : Bool). Kept base day marks (cond b g h)) (eq-eqb a.code 0 e) k

-- reads before and after a step that puts `row` into the plain grid
row_reads : {base day marks day' marks' : List ℕ} {g : Grid} (i : ℕ) (row : ℕ → Cell) → Kept base day marks g
    → Kept base day' marks' (with_row g i row) → RowReads base day marks day' marks' i row
row_reads i row k k' κs λs p q r j before after l m x y =
    let b = kept_read k r j l m x in
    let a = kept_read k' r j l m y in
    (b.code, a.code, λ e. a.cell ∙ rw (eq-eqb r i e), λ f. a.cell ∙ rw (ne_eqb r i f) (sym b.cell))

pub claims : Claims
claims = record {
  rewrite_met = rewrite_met.met;
  back_met = back_met.met;
  read_met = read_met.met;
  fold_met = fold_met.met;
  rewrite_known = rewrite_reads.known;
  back_known = back_reads.known;
  read_known = read_reads.known;
  fold_known = fold_reads.known;
  rewrite_free = λ κs day marks i row. tt;
  back_free = λ κs day marks i. tt;
  read_free = λ κs base day marks i j. tt;
  fold_free = λ κs base day marks out. tt;
  folding = λ κs λs μs p q r base day marks out out' f a c i j l m h e x y.
      let w = folded_holds base day marks out out' (answer f) h e in
      let n = z base day marks out out' (answer f) h e in
      let d = pair_ready base day marks (fold_none base day marks (length out) n) in
      folded_read base day marks out out' (answer f) h e i j l m (cell_answer a) (cell_answer c)
      (as_read x (through_read base day marks i j (readable d l m)))
      (as_read (y ∙ sym (read_found out' i j (matrix_made out' w.matrix) (omega (arith, w.same.rows))
      (omega (arith, w.same.cols)))) (found_read (grid_of out') i j));
  rewriting = λ κs p base day marks new day' marks' i f n t e.
      let k = first_kept base day marks n in
      row_reads i (cell_of new 0) k (accepted_kept (answer f) _ _ e (step_rewritten k i new (answer f) t));
  taking_back = λ κs p base day marks day' marks' i f n t e.
      let k = first_kept base day marks n in
      row_reads i (cell_of base i) k (accepted_kept (answer f) _ _ e (step_taken k i (answer f) t));
  listed = λ base day marks day' marks' g n r κs p i j a l m x.
      let t = kept_read (run_kept base r (first_kept base day marks n)) i j l m x in
      (t.code, t.cell);
}
