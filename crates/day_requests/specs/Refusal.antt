-- When a call on a day matrix over a base matrix is refused (document 02, A7): "Refusals: 3 base, 4 day, 5 marks, 6 new
-- row, then 7 (past the base sheet; rewriting and taking back are given no base, so past the day sheet), 8, 10, 11". The
-- first case of a list that applies is given; one number may have two cases.
use Rattle.std.specs.Prelude.{ℕ, List, [], ◌∷◌, ◌++◌, Bool, not, leb, eqb}
use Rattle.answers.specs.Refusals.{
  invalid_first,
  invalid_second,
  invalid_mask,
  invalid_output,
  index_out_of_bounds,
  invalid_shape,
}
use Rattle.conditions.specs.Tests.{◌and◌}
use Rattle.grid.specs.Grid.{Grid}
use Rattle.matrix.specs.Layout.{rows, cols, grid_of}
use Rattle.matrix.specs.Valid.{valid}
use Rattle.refusals.specs.Cases.{Case, given, first_applying}

-- "both of one shape"
unfoldable pub same_shape : Grid → Grid → Bool
same_shape base day = eqb day.rows base.rows and eqb day.cols base.cols

-- "a strip 1 by R", "a 1 by C strip": of the length n
unfoldable pub is_vector : Grid → ℕ → Bool
is_vector g n = eqb g.rows 1 and eqb g.cols n

-- 4 and 5
abbrev pub day_cases : List ℕ → List ℕ → List Case
day_cases day marks =
    given invalid_second (not (valid day))
    ∷ given invalid_mask (not (valid marks))
    ∷ []

unfoldable pub day_refusal : List ℕ → List ℕ → ℕ
day_refusal day marks = first_applying (day_cases day marks)

-- 8 of the three matrices
abbrev pub shape_cases : List ℕ → List ℕ → List ℕ → List Case
shape_cases base day marks =
    given invalid_shape (not (same_shape (grid_of base) (grid_of day)))
    ∷ given invalid_shape (not (is_vector (grid_of marks) (rows base)))
    ∷ []

-- folding, and showing a row: 3, 4, 5, 8
abbrev pub pair_cases : List ℕ → List ℕ → List ℕ → List Case
pair_cases base day marks =
    (given invalid_first (not (valid base)) ∷ day_cases day marks) ++ shape_cases base day marks

unfoldable pub pair_refusal : List ℕ → List ℕ → List ℕ → ℕ
pair_refusal base day marks = first_applying (pair_cases base day marks)

-- reading a cell: "then 7 (past the base sheet ..), 8"
abbrev pub read_after_day : List ℕ → List ℕ → List ℕ → ℕ → ℕ → List Case
read_after_day base day marks i j =
    given index_out_of_bounds (leb (rows base) i)
    ∷ given index_out_of_bounds (leb (cols base) j)
    ∷ shape_cases base day marks

abbrev pub read_cases : List ℕ → List ℕ → List ℕ → ℕ → ℕ → List Case
read_cases base day marks i j =
    (given invalid_first (not (valid base)) ∷ day_cases day marks) ++ read_after_day base day marks i j

unfoldable pub read_refusal : List ℕ → List ℕ → List ℕ → ℕ → ℕ → ℕ
read_refusal base day marks i j = first_applying (read_cases base day marks i j)

-- rewriting a row: 4, 5, "6 new row, then 7 (.. rewriting and taking back are given no base, so past the day sheet), 8"
abbrev pub rewrite_after_day : List ℕ → List ℕ → ℕ → List ℕ → List Case
rewrite_after_day day marks i new =
    given invalid_output (not (valid new))
    ∷ given index_out_of_bounds (leb (rows day) i)
    ∷ given invalid_shape (not (is_vector (grid_of marks) (rows day)))
    ∷ given invalid_shape (not (is_vector (grid_of new) (cols day)))
    ∷ []

abbrev pub rewrite_cases : List ℕ → List ℕ → ℕ → List ℕ → List Case
rewrite_cases day marks i new = day_cases day marks ++ rewrite_after_day day marks i new

unfoldable pub rewrite_refusal : List ℕ → List ℕ → ℕ → List ℕ → ℕ
rewrite_refusal day marks i new = first_applying (rewrite_cases day marks i new)

-- taking a rewrite back
abbrev pub back_after_day : List ℕ → List ℕ → ℕ → List Case
back_after_day day marks i =
    given index_out_of_bounds (leb (rows day) i)
    ∷ given invalid_shape (not (is_vector (grid_of marks) (rows day)))
    ∷ []

abbrev pub back_cases : List ℕ → List ℕ → ℕ → List Case
back_cases day marks i = day_cases day marks ++ back_after_day day marks i

unfoldable pub back_refusal : List ℕ → List ℕ → ℕ → ℕ
back_refusal day marks i = first_applying (back_cases day marks i)
