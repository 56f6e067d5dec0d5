-- `section_place` gives the place of the section asked.
use Rattle.row_view.proofs.Views.{place_made, section_length}
use Rattle.row_view.proofs.section_place.Goals as goal

pub returns : goal.returns
returns c =
    let s₀ = c.args.words.now in
    rw c.section_from.ensures (place_made _ _ _ _
    (section_length c.args.section s₀ _ c.args.i c.requires.fact_1 c.requires.fact_2 c.row_columns.ensures.words))
