-- What showing a row of a day matrix over a base matrix gives (document 02, A7: "Showing a row gives an empty part instead,
-- as in document 01."). The base matrix is the first of the two that a part may lie in, the day matrix the second.
use Rattle.std.specs.Prelude.{ℕ, List, Bool, cond, ltb, eqb}
use Rattle.conditions.specs.Tests.{◌and◌}
use Rattle.matrix.specs.Layout.{rows, grid_of}
use Rattle.row_view.specs.declared.Section.{Section}
use Rattle.row_view.specs.View.{View, first, second, nothing, section_from, section_to}
use Rattle.day_grids.specs.Day.{marked}
use Rattle.day_requests.specs.Refusal.{pair_refusal}

-- three valid matrices that fit together, and a row of them
unfoldable pub showable : List ℕ → List ℕ → List ℕ → ℕ → Bool
showable base day marks i = eqb (pair_refusal base day marks) 0 and ltb i (rows base)

-- "A row is shown from the day sheet where the strip marks it, even if it is empty there, and otherwise as a part of the
-- base sheet."
unfoldable pub day_view : Section → List ℕ → List ℕ → List ℕ → ℕ → View
day_view section base day marks i =
    cond (showable base day marks i)
    (cond (marked (grid_of marks) i)
    (second (section_from section day i) (section_to section day i))
    (first (section_from section base i) (section_to section base i)))
    nothing
