-- What "keys behind doors" answers, and every word that it leaves (document 02, A13).
use Rattle.std.specs.Prelude.{ℕ, ◌≡◌, List, cond, length, take, replicate, leb}
use Rattle.answers.specs.Answers.{Answer}
use Rattle.answers.specs.Refusals.{accepted, refused, unless_refused, insufficient_space}
use Rattle.words.specs.Words.{overwrite}
use Rattle.matrix.specs.Layout.{size_of}
use Rattle.encoding.specs.Encode.{written_over}
use Rattle.refusals.specs.Cases.{answer_for}
use Rattle.key_requests.specs.Refusal.{lent_doors, doors_refusal}

-- the answer: 0 and the number of doors in the vector, or the lowest refusal and 0
abbrev pub doors_answer : ℕ → List ℕ → List ℕ → List ℕ → ℕ → ℕ → Answer
doors_answer allowance locks cabinets hand work room =
    answer_for (doors_refusal allowance locks cabinets hand work room) (lent_doors allowance locks cabinets hand)

-- its buffer: "a new strip of doors .. each with the first round it opens in", and then the spare words as they were;
-- "no old sheet is needed there". Where refused, as it was
pub record Attempted (allowance : ℕ) (locks cabinets hand out : List ℕ) (work : ℕ) (answer : Answer)
    (out' : List ℕ) : Type 0 where
  pub answer_is : answer ≡ doors_answer allowance locks cabinets hand work (length out)
  pub words_are : out' ≡ unless_refused answer out (written_over (lent_doors allowance locks cabinets hand) out)

-- and the workspace: "all zeros over its whole length after every call that has one"
pub record Completed (allowance : ℕ) (locks cabinets hand out work : List ℕ) (answer : Answer)
    (out' work' : List ℕ) : Type 0 where
  pub attempted : Attempted allowance locks cabinets hand out (length work) answer out'
  pub cleared : work' ≡ replicate (length work) 0

-- a vector of n entries copied from the front of w over `out`, if it fits
abbrev pub commit_answer : List ℕ → ℕ → Answer
commit_answer out n = cond (leb (size_of 1 n) (length out)) (accepted n) (refused insufficient_space)

pub record Committed (out w : List ℕ) (n : ℕ) (answer : Answer) (out' : List ℕ) : Type 0 where
  pub answer_is : answer ≡ commit_answer out n
  pub words_are : out' ≡ unless_refused answer out (overwrite 0 (take (size_of 1 n) w) out)
