-- `copy_row` copies a row from its first entry on.
use native.Mathlib.Omega.{arith}
use Rattle.rows.proofs.Holds.{holds_none}
use Rattle.rows.proofs.Position.{position_zero}
use mathlib.Core.Path.{refl}
use Rattle.row_pairs.proofs.Rest.{rest_room, rest_done}
use Rattle.row_pairs.proofs.copy_row.Goals as goal

pub copy_rest-requires : goal.copy_rest-requires
copy_rest-requires c =
    rest_room c.requires.row (holds_none _ _ _) (omega arith) (position_zero _) (λ j a b. refl) c.requires.output_room.0
    c.requires.output_room.1

pub returns : goal.returns
returns c =
    rest_done c.requires.row (holds_none _ _ _) (omega arith) (position_zero _) (λ j a b. refl) c.requires.output_room.0
    c.requires.output_room.1
    c.copy_rest.ensures
