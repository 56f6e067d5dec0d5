-- `ostrubel_row_view` gives the place of the part that `row_view::row_view` returns.
use mathlib.Core.Path.{ap, ◌∙◌}
use Rattle.exports.specs.Packing.{packed_place}
use Rattle.exports.proofs.Codes.{place_small}
use Rattle.exports.proofs.ostrubel_row_view.Goals as goal

pub pack_place-requires : goal.pack_place-requires
pack_place-requires c = rw c.place_shown.ensures (place_small _ _ _ _)

pub returns : goal.returns
returns c =
    rw (← c.section_of.ensures)
    (c.pack_place.ensures ∙ ap packed_place c.place_shown.ensures)
