-- Refusals on plain grids (document 01, "When the clerk turns a call away"): "The lowest number that applies is given", and
-- "A call gives only refusals for things it has." Nothing here knows how a matrix is written, but for its size and the
-- words of the workspace.
use Rattle.std.specs.Prelude.{ℕ, List, [], ◌∷◌, Bool, cond, not, ltb, eqb}
use Rattle.limits.specs.Limits.{max_flags, max_entries}
use Rattle.answers.specs.Answers.{Answer}
use Rattle.answers.specs.Refusals.{
  flags_out_of_range,
  unknown_operator,
  index_out_of_bounds,
  invalid_shape,
  workspace_too_short,
  too_many_entries,
  insufficient_space,
  accepted,
  refused,
}
use Rattle.grid.specs.Grid.{Grid}
use Rattle.grid.specs.Entries.{entry_count}
use Rattle.operations.specs.declared.Call.{Call}
use Rattle.operations.specs.Calls.{indexes_valid, shapes_agree}
use Rattle.limits.specs.Sizes.{workspace_words}

-- a refusal, and whether its case is there
pub record Case : Type 0 where
  pub number : ℕ
  pub applies : Bool

abbrev pub given : ℕ → Bool → Case
given number applies = record { number = number; applies = applies }

-- the number of the first case of a list that applies, or 0. On lent matrices the cases stand in the order of their
-- numbers, so it is the lowest; on a store 12 stands first, and 13 between 2 and 7; a formula has an order of its own
abbrev pub first_applying : List Case → ℕ
first_applying [] = 0
first_applying (x ∷ xs) = cond x.applies x.number (first_applying xs)

-- 1 and 2: the numbers of a call
abbrev pub number_cases : Call → List Case
number_cases call =
    given flags_out_of_range (ltb max_flags call.flags)
    ∷ given unknown_operator (not call.known)
    ∷ []

unfoldable pub numbers_refusal : Call → ℕ
numbers_refusal call = first_applying (number_cases call)

-- 7 to 9: the inputs a and b, the mask, the old C, the index lists and the length of the workspace
abbrev pub agreement_cases : Call → Grid → Grid → Grid → Grid → List ℕ → List ℕ → ℕ → List Case
agreement_cases call a b m c is js work =
    given index_out_of_bounds (not (indexes_valid call a b c is js))
    ∷ given invalid_shape (not (shapes_agree call a b m c is js))
    ∷ given workspace_too_short (ltb work workspace_words)
    ∷ []

unfoldable pub agreement_refusal : Call → Grid → Grid → Grid → Grid → List ℕ → List ℕ → ℕ → ℕ
agreement_refusal call a b m c is js work = first_applying (agreement_cases call a b m c is js work)

-- 10 and 11: a grid that is written, the words that are needed for it and the words that there are
abbrev pub output_cases : Grid → ℕ → ℕ → List Case
output_cases g needed room =
    given too_many_entries (ltb max_entries (entry_count g))
    ∷ given insufficient_space (ltb room needed)
    ∷ []

-- the first number that is not 0
abbrev pub first_of : ℕ → ℕ → ℕ
first_of n m = cond (eqb n 0) m n

-- "0 and the N of its sheet", or the number and 0
abbrev pub answer_for : ℕ → Grid → Answer
answer_for code g = cond (eqb code 0) (accepted (entry_count g)) (refused code)
