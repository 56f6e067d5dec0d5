-- `cell_at` is `lookup`: the value beside the place.
use mathlib.Core.Path.{◌∙◌}
use Rattle.rows.proofs.Places.{place_cell, place_inside}
use Rattle.rows.proofs.cell_at.Goals as goal

pub cell_beside-requires : goal.cell_beside-requires
cell_beside-requires c = place_inside _ _ c.requires.rises_2 c.requires.rises_1 _ _ c.look_at-found.ensures.found

pub returns : goal.returns
returns c =
    c.cell_beside.ensures ∙ place_cell _ _ c.requires.rises_2 c.requires.rises_1 _ _ c.look_at-found.ensures.found
