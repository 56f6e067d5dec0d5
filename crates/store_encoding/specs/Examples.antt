-- The writing of a model after a short list of calls, computed.
use Rattle.std.specs.Prelude.{◌≡◌, refl, List, [], ◌∷◌, ◌++◌, replicate}
use Rattle.conditions.specs.Tests.{◌and◌}
use Rattle.limits.specs.Ranges.{in_range}
use Rattle.grid.specs.Entries.{one, gather, flatten}
use Rattle.grid.specs.Revision.{next_revision}
use Rattle.encoding.specs.Encode.{tabulate, encode_revised}
use Rattle.slots.specs.Sections.{writing}
use Rattle.model.specs.Model.{fresh}
use Rattle.model.specs.Effects.{reply_of, next_of}
use Rattle.model.specs.Calls.{StoreCall, new_empty, drop_slot, set_cell, effect}
use Rattle.model.specs.Histories.{model_after}
use Rattle.store_encoding.specs.Writing.{model_writing}

-- slots 0 and 2 get vectors, slot 0 goes again, slot 2 gets 7 at column 1, which makes its revision 1; a set of slot 0 is
-- refused
abbrev calls : List StoreCall
calls = new_empty 0 1 3 ∷ new_empty 2 1 2 ∷ drop_slot 0 ∷ set_cell 2 0 1 7 ∷ set_cell 0 0 0 5 ∷ []

-- a count of 0 for each empty slot, the count and the words of slot 2, and zeros
written_after : model_writing 30 (model_after 30 fresh calls)
    ≡ (0 ∷ 0 ∷ 12 ∷ 1 ∷ 1 ∷ 2 ∷ 1 ∷ 2 ∷ 2 ∷ 0 ∷ 1 ∷ 1 ∷ 1 ∷ 1 ∷ 7 ∷ []) ++ replicate 15 0
unfolding effect reply_of next_of in_range ◌and◌ flatten gather one model_writing writing encode_revised next_revision tabulate
written_after = refl
