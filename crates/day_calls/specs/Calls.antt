-- What the calls on a day matrix over a base matrix answer, and every word that they leave (document 02, A7).
use Rattle.std.specs.Prelude.{ℕ, ◌≡◌, List, [], ◌∷◌, ◌++◌, cond, length, ltb, eqb}
use Rattle.limits.specs.Limits.{max_entries}
use Rattle.answers.specs.Answers.{Answer}
use Rattle.answers.specs.Answers.{CellAnswer}
use Rattle.answers.specs.Refusals.{unless_refused, too_many_entries, insufficient_space}
use Rattle.answers.specs.Reads.{found_answer, refused_read}
use Rattle.grid.specs.Grid.{Grid}
use Rattle.grid.specs.Entries.{entry_count}
use Rattle.grid.specs.Position.{entry_at}
use Rattle.matrix.specs.Layout.{grid_of}
use Rattle.encoding.specs.Encode.{grid_size, written_over, updated_to}
use Rattle.refusals.specs.Cases.{Case, given, first_applying, answer_for, output_cases}
use Rattle.day_grids.specs.Day.{shown_from, rewritten_day, rewritten_marks, taken_day, taken_marks}
use Rattle.day_requests.specs.Refusal.{rewrite_cases, back_refusal, read_refusal, pair_cases}
use Rattle.day_folds.specs.Folding.{lent_fold}

-- the day's grid and the marks after row i was rewritten, and after that was taken back
abbrev pub day_with : List ℕ → ℕ → List ℕ → Grid
day_with day i new = rewritten_day (grid_of day) i (grid_of new)

abbrev pub marks_with : List ℕ → ℕ → Grid
marks_with marks i = rewritten_marks (grid_of marks) i

abbrev pub day_without : List ℕ → ℕ → Grid
day_without day i = taken_day (grid_of day) i

abbrev pub marks_without : List ℕ → ℕ → Grid
marks_without marks i = taken_marks (grid_of marks) i

-- 10 and 11 of rewriting: the day's grid has too many entries; "any other sheet that the call writes .. doesn't fit its
-- buffer", the day matrix or the marks
abbrev pub written_cases : List ℕ → List ℕ → ℕ → List ℕ → List Case
written_cases day marks i new =
    given too_many_entries (ltb max_entries (entry_count (day_with day i new)))
    ∷ given insufficient_space (ltb (length day) (grid_size (day_with day i new)))
    ∷ given insufficient_space (ltb (length marks) (grid_size (marks_with marks i)))
    ∷ []

-- "4 day, 5 marks, 6 new row, then 7 .., 8, 10, 11"
unfoldable pub rewriting_refusal : List ℕ → List ℕ → ℕ → List ℕ → ℕ
rewriting_refusal day marks i new = first_applying (rewrite_cases day marks i new ++ written_cases day marks i new)

-- "Rewriting takes a 1 by C strip and marks with 1 ..; both return 0 and the day sheet's N"; "they change nothing"
-- where they are refused. A12: "Each accepted call that writes into a sheet adds one to that sheet's revision"
pub record Rewritten (day marks : List ℕ) (i : ℕ) (new : List ℕ) (answer : Answer) (day' marks' : List ℕ) : Type 0 where
  pub answer_is : answer ≡ answer_for (rewriting_refusal day marks i new) (day_with day i new)
  pub day_is : day' ≡ unless_refused answer day (updated_to (day_with day i new) day)
  pub marks_are : marks' ≡ unless_refused answer marks (updated_to (marks_with marks i) marks)

-- "taking back empties the day row and its mark, if any": 10 and 11 cannot arise. A12: one is added, too, by "taking back
-- an unmarked row (day and marks)"
pub record TakenBack (day marks : List ℕ) (i : ℕ) (answer : Answer) (day' marks' : List ℕ) : Type 0 where
  pub answer_is : answer ≡ answer_for (back_refusal day marks i) (day_without day i)
  pub day_is : day' ≡ unless_refused answer day (updated_to (day_without day i) day)
  pub marks_are : marks' ≡ unless_refused answer marks (updated_to (marks_without marks i) marks)

-- "reading a cell through the pair", and A11: "reading through the pair counts in the sheet shown"
unfoldable pub through_answer : List ℕ → List ℕ → List ℕ → ℕ → ℕ → CellAnswer
through_answer base day marks i j =
    cond (eqb (read_refusal base day marks i j) 0)
    (found_answer (entry_at (shown_from (grid_of base) (grid_of day) (grid_of marks) i) i j))
    (refused_read (read_refusal base day marks i j))

-- folding "is refused by 10 or 11 exactly as table rules say", after 3, 4, 5 and 8
unfoldable pub fold_refusal : List ℕ → List ℕ → List ℕ → ℕ → ℕ
fold_refusal base day marks room =
    first_applying (pair_cases base day marks
    ++ output_cases (lent_fold base day marks) (grid_size (lent_fold base day marks)) room)

-- "folding both into one new sheet", which its buffer need not have held. A12: "Sheets made by .. folding start at 0"
pub record Folded (base day marks out : List ℕ) (answer : Answer) (out' : List ℕ) : Type 0 where
  pub answer_is : answer ≡ answer_for (fold_refusal base day marks (length out)) (lent_fold base day marks)
  pub words_are : out' ≡ unless_refused answer out (written_over (lent_fold base day marks) out)
