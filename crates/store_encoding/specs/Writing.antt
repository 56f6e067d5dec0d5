-- The one writing of a model (document 01, "The shelf": "The one writing of the grids").
use Rattle.std.specs.Prelude.{ℕ, List, [], map}
use Rattle.encoding.specs.Encode.{encode_revised}
use Rattle.slots.specs.Sections.{Slots, writing}
use Rattle.model.specs.Model.{Slot, vacant, holding, Model}

-- the words of a slot: its sheet with its revision, or none
abbrev pub contents : Slot → List ℕ
contents vacant = []
contents (holding v g) = encode_revised v g

abbrev pub all_contents : Model → Slots
all_contents m = map contents m

-- "place by place, 0 for an empty place, or else the grid's size and then its sheet": a count before the words of each slot;
-- and "Zeros fill the rest of the length."
unfoldable pub model_writing : ℕ → Model → List ℕ
model_writing n m = writing n (all_contents m)
