-- `find_entry` is the cell of `lookup` with its position: what stands beside the place, found by halving.
use native.Mathlib.Omega.{arith}
use mathlib.Core.Path.{◌∙◌}
use Rattle.rows.proofs.Places.{place_entry, place_among}
use Rattle.rows.proofs.find_entry.Goals as goal

pub entry_beside-requires : goal.entry_beside-requires
entry_beside-requires c =
    record {
      among = place_among _ _ c.requires.rises_2 c.requires.rises_1 _ _ c.find_column-found.ensures.found;
      few = omega arith;
    }

pub returns : goal.returns
returns c =
    record {
      fact_1 =
          c.entry_beside.ensures
          ∙ place_entry _ _ c.requires.rises_2 c.requires.rises_1 _ _ _ c.find_column-found.ensures.found;
      fact_2 = c.find_column-found.ensures.counted;
    }
