-- What a call on lent matrices answers, and every word that it leaves.
use Rattle.std.specs.Prelude.{ℕ, ◌≡◌, List, cond, length, take, replicate, leb}
use Rattle.answers.specs.Answers.{Answer}
use Rattle.answers.specs.Refusals.{accepted, refused, unless_refused, insufficient_space}
use Rattle.words.specs.Words.{overwrite}
use Rattle.grid.specs.Revision.{updating, revision_after}
use Rattle.matrix.specs.Layout.{revision, rows, size_of}
use Rattle.matrix.specs.HeaderWords.{with_revision}
use Rattle.encoding.specs.Encode.{updated_to}
use Rattle.operations.specs.declared.Call.{Call}
use Rattle.refusals.specs.Cases.{answer_for}
use Rattle.requests.specs.Refusal.{lent_refusal, lent_final}

-- the answer: 0 and the entries of the final C, or the lowest refusal and 0
abbrev pub lent_answer : Call → List ℕ → List ℕ → List ℕ → List ℕ → List ℕ → List ℕ → ℕ → Answer
lent_answer call a b m c is js work = answer_for (lent_refusal call a b m c is js work) (lent_final call a b m c is js)

-- C's buffer: the final C written over it; where refused, as it was
pub record Attempted (call : Call) (a b m c is js : List ℕ) (work : ℕ) (answer : Answer) (c' : List ℕ) : Type 0 where
  pub answer_is : answer ≡ lent_answer call a b m c is js work
  pub words_are : c' ≡ unless_refused answer c (updated_to (lent_final call a b m c is js) c)

-- and the workspace: "all zeros over its whole length after every call that has one"
pub record Completed (call : Call) (a b m c is js w : List ℕ) (answer : Answer) (c' w' : List ℕ) : Type 0 where
  pub attempted : Attempted call a b m c is js (length w) answer c'
  pub cleared : w' ≡ replicate (length w) 0

-- a matrix of n entries copied from the front of w over c, if it fits, with the revision after that of c
abbrev pub commit_answer : List ℕ → ℕ → Answer
commit_answer c n = cond (leb (size_of (rows c) n) (length c)) (accepted n) (refused insufficient_space)

pub record Committed (c w : List ℕ) (n : ℕ) (answer : Answer) (c' : List ℕ) : Type 0 where
  pub answer_is : answer ≡ commit_answer c n
  pub words_are : c' ≡ unless_refused answer c (with_revision (revision_after updating (revision c))
      (overwrite 0 (take (size_of (rows c) n) w) c))
