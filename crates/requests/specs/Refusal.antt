-- When a call on lent matrices is refused (document 01, "When the clerk turns a call away").
use Rattle.std.specs.Prelude.{ℕ, List, [], ◌∷◌, ◌++◌, not, length}
use Rattle.answers.specs.Refusals.{invalid_first, invalid_second, invalid_mask, invalid_output}
use Rattle.conditions.specs.Tests.{◌and◌}
use Rattle.grid.specs.Grid.{Grid}
use Rattle.operations.specs.declared.Call.{Call}
use Rattle.operations.specs.Calls.{has_second, call_final}
use Rattle.matrix.specs.Layout.{grid_of}
use Rattle.matrix.specs.Valid.{valid}
use Rattle.encoding.specs.Encode.{grid_size}
use Rattle.refusals.specs.Cases.{Case, given, first_applying, number_cases, agreement_cases, output_cases, first_of}

-- 3 to 6: the words of a, b, mask and old C
abbrev pub matrix_cases : Call → List ℕ → List ℕ → List ℕ → List ℕ → List Case
matrix_cases call a b m c =
    given invalid_first (not (valid a))
    ∷ given invalid_second (has_second call.operation and not (valid b))
    ∷ given invalid_mask (call.has_mask and not (valid m))
    ∷ given invalid_output (not (valid c))
    ∷ []

unfoldable pub matrices_refusal : Call → List ℕ → List ℕ → List ℕ → List ℕ → ℕ
matrices_refusal call a b m c = first_applying (matrix_cases call a b m c)

-- what is looked at before the operation is worked out, with the lists and the length of the workspace
unfoldable pub input_refusal : Call → List ℕ → List ℕ → List ℕ → List ℕ → List ℕ → List ℕ → ℕ → ℕ
input_refusal call a b m c is js work = first_applying (
    number_cases call
    ++ (matrix_cases call a b m c
    ++ agreement_cases call (grid_of a) (grid_of b) (grid_of m) (grid_of c) is js work))

-- the final C of a call on lent matrices
abbrev pub lent_final : Call → List ℕ → List ℕ → List ℕ → List ℕ → List ℕ → List ℕ → Grid
lent_final call a b m c is js = call_final call (grid_of a) (grid_of b) (grid_of m) (grid_of c) is js

-- what is looked at afterwards: the final C, and the length of its buffer
abbrev pub output_refusal : Grid → ℕ → ℕ
output_refusal g room = first_applying (output_cases g (grid_size g) room)

-- the lowest number that applies, or 0: those of the inputs are all lower than those of the output
unfoldable pub lent_refusal : Call → List ℕ → List ℕ → List ℕ → List ℕ → List ℕ → List ℕ → ℕ → ℕ
lent_refusal call a b m c is js work =
    first_of (input_refusal call a b m c is js work) (output_refusal (lent_final call a b m c is js) (length c))
