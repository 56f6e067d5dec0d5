-- The cases of folding and of reading through the pair, as the code reaches them.
use Prim.Native.Nat.{ℕ, ◌≤◌, ◌<◌}
use mathlib.Core.Path.{◌≡◌, refl, ap, ◌∙◌}
use mathlib.Core.List.{List}
use mathlib.Core.Bool.{Bool, true, false, cond}
use lib.ListN.{length}
use borrow.Author.Tests.{ne_eqb, lt-ltb, le-ltb}
use Rattle.std.specs.Prelude.{Err}
use Rattle.limits.specs.Limits.{max_entries}
use Rattle.answers.specs.declared.Refusal.{Refusal}
use Rattle.answers.specs.Results.{number, answer, cell_answer}
use Rattle.answers.proofs.Numbers.{number_not_0}
use Rattle.answers.specs.Refusals.{accepted, refused, too_many_entries, insufficient_space}
use Rattle.answers.specs.Reads.{found_answer}
use Rattle.grid.specs.Grid.{Grid}
use Rattle.grid.specs.Entries.{entry_count}
use Rattle.grid.specs.Position.{entry_at}
use Rattle.matrix.specs.Layout.{grid_of}
use Rattle.encoding.specs.Encode.{grid_size, written_over}
use Rattle.refusals.specs.Cases.{first_applying, output_cases}
use Rattle.refusals.proofs.Cases.{applying_first, applying_rest, Numbered}
use Rattle.day_grids.specs.Day.{marked}
use Rattle.day_marks.specs.Marks.{shown_words}
use Rattle.day_requests.specs.Refusal.{pair_cases, pair_refusal, read_refusal}
use Rattle.day_folds.specs.Folding.{lent_fold}
use Rattle.day_calls.specs.Calls.{through_answer, fold_refusal, Folded}

module _ (base day marks out : List ℕ) where
  abbrev g : Grid
  g = lent_fold base day marks

  numbered : Numbered (pair_cases base day marks)
  numbered = (refl, (refl, (refl, (refl, (refl, tt)))))

  -- refused before anything is worked out
  pub fold_refused : (r : Refusal) → number r ≡ pair_refusal base day marks
      → Folded base day marks out (answer (Err r)) out
  unfolding fold_refusal pair_refusal
  fold_refused r e =
      let h = number_not_0 r in
      let f = ne_eqb (number r) 0 h in
      let x = applying_first (pair_cases base day marks) (output_cases g (grid_size g) (length out)) (number r) e h in
      record { answer_is = rw (← x, f); words_are = rw f }

  module _ (z : pair_refusal base day marks ≡ 0) where
    rest : fold_refusal base day marks (length out) ≡ first_applying (output_cases g (grid_size g) (length out))
    unfolding fold_refusal pair_refusal
    rest = applying_rest (pair_cases base day marks) (output_cases g (grid_size g) (length out)) numbered z

    pub fold_many : max_entries < entry_count g → Folded base day marks out (refused too_many_entries) out
    fold_many l = record { answer_is = rw (rest, lt-ltb _ _ l); words_are = refl }

    module _ (few : entry_count g ≤ max_entries) where
      pub fold_short : length out < grid_size g → Folded base day marks out (refused insufficient_space) out
      fold_short l = record { answer_is = rw (rest, le-ltb _ _ few, lt-ltb _ _ l); words_are = refl }

      pub fold_done : grid_size g ≤ length out → (n : ℕ) (out' : List ℕ) → n ≡ entry_count g → out' ≡ written_over g out
          → Folded base day marks out (accepted n) out'
      fold_done l n out' e h = record {
        answer_is = ap accepted e ∙ rw (rest, le-ltb _ _ few, le-ltb _ _ l);
        words_are = h;
      }

module _ (base day marks : List ℕ) (i j : ℕ) where
  pub read_refused : (r : Refusal) → number r ≡ read_refusal base day marks i j
      → cell_answer (Err r) ≡ through_answer base day marks i j
  unfolding through_answer
  read_refused r e = rw (← e, ne_eqb (number r) 0 (number_not_0 r))

  -- the grid of the words that are shown
  shown_grid : (b : Bool) → grid_of (cond b day base) ≡ cond b (grid_of day) (grid_of base)
  shown_grid true = refl
  shown_grid false = refl

  pub read_found : read_refusal base day marks i j ≡ 0
      → found_answer (entry_at (grid_of (shown_words base day marks i)) i j) ≡ through_answer base day marks i j
  unfolding through_answer
  read_found z =
      ap (λ (h : Grid). found_answer (entry_at h i j)) (shown_grid (marked (grid_of marks) i)) ∙ rw z
