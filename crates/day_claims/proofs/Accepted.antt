-- What is known of an accepted call: none of its refusals applies.
use Prim.Native.Nat.{ℕ, ◌≤◌}
use mathlib.Core.Path.{◌≡◌, refl, sym, ap, ◌∙◌}
use mathlib.Core.List.{List}
use mathlib.Core.Bool.{Bool, true, false, cond}
use lib.Dec.{eqb}
use borrow.Author.Tests.{eq-eqb, eqb-true, ltb-false}
use Rattle.limits.specs.Limits.{max_entries}
use Rattle.answers.specs.Answers.{Answer}
use Rattle.answers.specs.Refusals.{accepted, refused, unless_refused}
use Rattle.grid.specs.Grid.{Grid}
use Rattle.grid.specs.Entries.{entry_count}
use Rattle.encoding.specs.Encode.{grid_size}
use Rattle.refusals.specs.Cases.{answer_for, output_cases}
use Rattle.refusals.proofs.Cases.{later, Numbered, applying_none, applying_tail}
use Rattle.day_requests.specs.Refusal.{rewrite_cases, rewrite_refusal, pair_cases, pair_refusal}
use Rattle.day_folds.specs.Folding.{lent_fold}
use Rattle.day_calls.specs.Calls.{day_with, written_cases, rewriting_refusal, fold_refusal}

-- the code of an answer is its refusal
code_none : (b : Bool) (code : ℕ) (g : Grid) → eqb code 0 ≡ b
    → (cond b (accepted (entry_count g)) (refused code)).code ≡ 0 → code ≡ 0
code_none true code g e h = eqb-true _ _ e
code_none false code g e h = h

pub accepted_none : (code : ℕ) (g : Grid) (answer : Answer) → answer ≡ answer_for code g → answer.code ≡ 0 → code ≡ 0
accepted_none code g answer e h =
    code_none (eqb code 0) code g refl (sym (ap (λ (x : Answer). x.code) e) ∙ h)

-- the new words are there
pub accepted_words : (answer : Answer) (old new words : List ℕ) → words ≡ unless_refused answer old new
    → answer.code ≡ 0 → words ≡ new
accepted_words answer old new words e h = e ∙ rw (eq-eqb answer.code 0 h)

-- folding
module _ (base day marks : List ℕ) (room : ℕ) (z : fold_refusal base day marks room ≡ 0) where
  fold_numbered : Numbered (pair_cases base day marks)
  fold_numbered = (refl, (refl, (refl, (refl, (refl, tt)))))

  pub fold_none : pair_refusal base day marks ≡ 0
  unfolding fold_refusal pair_refusal
  fold_none =
      applying_none (pair_cases base day marks)
      (output_cases (lent_fold base day marks) (grid_size (lent_fold base day marks)) room) fold_numbered z

  pub fold_few : entry_count (lent_fold base day marks) ≤ max_entries
  unfolding fold_refusal
  fold_few =
      let t = applying_tail (pair_cases base day marks)
      (output_cases (lent_fold base day marks) (grid_size (lent_fold base day marks)) room) fold_numbered z in
      ltb-false _ _ (later _ 10 _ refl t).here

-- rewriting
module _ (day marks : List ℕ) (i : ℕ) (new : List ℕ) (z : rewriting_refusal day marks i new ≡ 0) where
  numbered : Numbered (rewrite_cases day marks i new)
  numbered = (refl, (refl, (refl, (refl, (refl, (refl, tt))))))

  pub rewrite_none : rewrite_refusal day marks i new ≡ 0
  unfolding rewriting_refusal rewrite_refusal
  rewrite_none = applying_none (rewrite_cases day marks i new) (written_cases day marks i new) numbered z

  pub rewrite_few : entry_count (day_with day i new) ≤ max_entries
  unfolding rewriting_refusal
  rewrite_few =
      let t = applying_tail (rewrite_cases day marks i new) (written_cases day marks i new) numbered z in
      ltb-false _ _ (later _ 10 _ refl t).here
