-- `ostrubel_day_show` gives the place of the part that `day_calls::show_row` returns.
use mathlib.Core.Path.{ap, ◌∙◌}
use Rattle.exports.specs.Packing.{packed_place}
use Rattle.exports.proofs.Days.{show_small}
use Rattle.exports.proofs.ostrubel_day_show.Goals as goal

pub pack_place-requires : goal.pack_place-requires
pack_place-requires c = rw c.place_shown.ensures (show_small _ _ _ _ _)

pub returns : goal.returns
returns c =
    rw (← c.section_of.ensures)
    (c.pack_place.ensures ∙ ap packed_place c.place_shown.ensures)
