-- The cases of rewriting and of taking back, as the code reaches them.
use Prim.Native.Nat.{ℕ, ◌≤◌, ◌<◌}
use mathlib.Core.Path.{◌≡◌, refl, ap, ◌∙◌}
use mathlib.Core.List.{List}
use lib.ListN.{length}
use borrow.Author.Tests.{ne_eqb, lt-ltb, le-ltb}
use Rattle.std.specs.Prelude.{Err}
use Rattle.limits.specs.Limits.{max_entries}
use Rattle.answers.specs.declared.Refusal.{Refusal}
use Rattle.answers.specs.Results.{number, answer}
use Rattle.answers.proofs.Numbers.{number_not_0}
use Rattle.answers.specs.Refusals.{accepted, refused, too_many_entries, insufficient_space}
use Rattle.grid.specs.Entries.{entry_count}
use Rattle.encoding.specs.Encode.{grid_size, updated_to}
use Rattle.refusals.specs.Cases.{first_applying}
use Rattle.refusals.proofs.Cases.{applying_first, applying_rest, Numbered}
use Rattle.day_requests.specs.Refusal.{rewrite_cases, rewrite_refusal, back_refusal}
use Rattle.day_calls.specs.Calls.{
  day_with,
  marks_with,
  day_without,
  marks_without,
  written_cases,
  rewriting_refusal,
  Rewritten,
  TakenBack,
}

module _ (day marks : List ℕ) (i : ℕ) (new : List ℕ) where
  numbered : Numbered (rewrite_cases day marks i new)
  numbered = (refl, (refl, (refl, (refl, (refl, (refl, tt))))))

  -- refused before anything is worked out
  pub rewrite_refused : (r : Refusal) → number r ≡ rewrite_refusal day marks i new
      → Rewritten day marks i new (answer (Err r)) day marks
  unfolding rewriting_refusal rewrite_refusal
  rewrite_refused r e =
      let h = number_not_0 r in
      let f = ne_eqb (number r) 0 h in
      let x = applying_first (rewrite_cases day marks i new) (written_cases day marks i new) (number r) e h in
      record { answer_is = rw (← x, f); day_is = rw f; marks_are = rw f }

  module _ (z : rewrite_refusal day marks i new ≡ 0) where
    rest : rewriting_refusal day marks i new ≡ first_applying (written_cases day marks i new)
    unfolding rewriting_refusal rewrite_refusal
    rest = applying_rest (rewrite_cases day marks i new) (written_cases day marks i new) numbered z

    -- too many entries
    pub rewrite_many : max_entries < entry_count (day_with day i new)
        → Rewritten day marks i new (refused too_many_entries) day marks
    rewrite_many l = record { answer_is = rw (rest, lt-ltb _ _ l); day_is = refl; marks_are = refl }

    module _ (few : entry_count (day_with day i new) ≤ max_entries) where
      -- no room for the day matrix
      pub rewrite_short : length day < grid_size (day_with day i new)
          → Rewritten day marks i new (refused insufficient_space) day marks
      rewrite_short l = record {
        answer_is = rw (rest, le-ltb _ _ few, lt-ltb _ _ l);
        day_is = refl;
        marks_are = refl;
      }

      module _ (fits : grid_size (day_with day i new) ≤ length day) where
        -- no room for the marks
        pub rewrite_unmarked : length marks < grid_size (marks_with marks i)
            → Rewritten day marks i new (refused insufficient_space) day marks
        rewrite_unmarked l = record {
          answer_is = rw (rest, le-ltb _ _ few, le-ltb _ _ fits, lt-ltb _ _ l);
          day_is = refl;
          marks_are = refl;
        }

        -- both are written
        pub rewrite_done : grid_size (marks_with marks i) ≤ length marks → (n : ℕ) (day' marks' : List ℕ)
            → n ≡ entry_count (day_with day i new) → day' ≡ updated_to (day_with day i new) day
            → marks' ≡ updated_to (marks_with marks i) marks → Rewritten day marks i new (accepted n) day' marks'
        rewrite_done l n day' marks' e d m = record {
          answer_is = ap accepted e ∙ rw (rest, le-ltb _ _ few, le-ltb _ _ fits, le-ltb _ _ l);
          day_is = d;
          marks_are = m;
        }

module _ (day marks : List ℕ) (i : ℕ) where
  pub back_refused : (r : Refusal) → number r ≡ back_refusal day marks i
      → TakenBack day marks i (answer (Err r)) day marks
  back_refused r e =
      let f = ne_eqb (number r) 0 (number_not_0 r) in
      record { answer_is = rw (← e, f); day_is = rw f; marks_are = rw f }

  pub back_done : back_refusal day marks i ≡ 0 → (n : ℕ) (day' marks' : List ℕ) → n ≡ entry_count (day_without day i)
      → day' ≡ updated_to (day_without day i) day → marks' ≡ updated_to (marks_without marks i) marks
      → TakenBack day marks i (accepted n) day' marks'
  back_done z n day' marks' e d m = record {
    answer_is = ap accepted e ∙ rw z;
    day_is = d;
    marks_are = m;
  }
