-- When "keys behind doors" is refused (document 02, A13): "Damaged sheets, wrong shapes and room use refusals 3 to 5
-- (the strip is third), 8, 9 and 11; an allowance above 1,000 is 7." The lowest number that applies is given.
use Rattle.std.specs.Prelude.{ℕ, List, [], ◌∷◌, ◌++◌, Bool, not, ltb, eqb}
use Rattle.limits.specs.Limits.{max_allowance}
use Rattle.limits.specs.Sizes.{workspace_words}
use Rattle.answers.specs.Refusals.{
  invalid_first,
  invalid_second,
  invalid_mask,
  index_out_of_bounds,
  invalid_shape,
  workspace_too_short,
  insufficient_space,
}
use Rattle.conditions.specs.Tests.{◌and◌}
use Rattle.grid.specs.Grid.{Grid}
use Rattle.grid.specs.Size.{grid_size}
use Rattle.matrix.specs.Layout.{grid_of}
use Rattle.matrix.specs.Valid.{valid}
use Rattle.refusals.specs.Cases.{Case, given, first_applying}
use Rattle.key_rounds.specs.Rounds.{door_vector}

-- "keys by doors, doors by keys, and a strip of keys in hand"
unfoldable pub shapes_fit : Grid → Grid → Grid → Bool
shapes_fit locks cabinets hand =
    eqb cabinets.rows locks.cols
    and eqb cabinets.cols locks.rows
    and eqb hand.rows 1
    and eqb hand.cols locks.rows

-- 3 to 5, 7, 8, 9: what is looked at before it is worked out, with the length of the workspace
abbrev pub input_cases : ℕ → List ℕ → List ℕ → List ℕ → ℕ → List Case
input_cases allowance locks cabinets hand work =
    given invalid_first (not (valid locks))
    ∷ given invalid_second (not (valid cabinets))
    ∷ given invalid_mask (not (valid hand))
    ∷ given index_out_of_bounds (ltb max_allowance allowance)
    ∷ given invalid_shape (not (shapes_fit (grid_of locks) (grid_of cabinets) (grid_of hand)))
    ∷ given workspace_too_short (ltb work workspace_words)
    ∷ []

unfoldable pub input_refusal : ℕ → List ℕ → List ℕ → List ℕ → ℕ → ℕ
input_refusal allowance locks cabinets hand work = first_applying (input_cases allowance locks cabinets hand work)

-- the answer's grid, from the words
abbrev pub lent_doors : ℕ → List ℕ → List ℕ → List ℕ → Grid
lent_doors allowance locks cabinets hand = door_vector (grid_of locks) (grid_of cabinets) (grid_of hand) allowance

-- 11: the answer does not fit its buffer of `room` words
abbrev pub output_cases : Grid → ℕ → List Case
output_cases g room = given insufficient_space (ltb room (grid_size g)) ∷ []

-- all of them; 1, 2, 6 and 10 do not arise
unfoldable pub doors_refusal : ℕ → List ℕ → List ℕ → List ℕ → ℕ → ℕ → ℕ
doors_refusal allowance locks cabinets hand work room =
    first_applying (
    input_cases allowance locks cabinets hand work
    ++ output_cases (lent_doors allowance locks cabinets hand) room)
