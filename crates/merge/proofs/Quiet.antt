-- Where both rows have no entry the output has none, whatever the mask has. This is all that the walk over the entries
-- knows of the write-back.
use Rattle.std.proofs.Common.{None, Some}
use Prim.Native.Nat.{ℕ}
use mathlib.Core.Path.{◌≡◌, refl}
use mathlib.Core.List.{List}
use mathlib.Core.Bool.{Bool, true, false, cond}
use Rattle.grid.specs.Cell.{Cell}
use Rattle.operations.specs.Accumulator.{Accumulator}
use Rattle.operations.specs.declared.WriteBack.{WriteBack}
use Rattle.operations.specs.WriteBacks.{accumulated, inside, write_back}
use Rattle.rows.specs.Row.{lookup}
use Rattle.merge.specs.Ways.{written_row}

-- nothing accumulated onto nothing
accumulated_quiet : (a : Accumulator) → accumulated a None None ≡ None
accumulated_quiet None = refl
accumulated_quiet (Some op) = refl

-- either way of a test gives nothing
cond_quiet : (b : Bool) (z c : Cell) → z ≡ None → c ≡ None → cond b z c ≡ None
cond_quiet true z c h k = h
cond_quiet false z c h k = k

written_quiet : (w : WriteBack) (m : Cell) → write_back w m None None ≡ None
unfolding write_back
written_quiet w m =
    cond_quiet (inside w m) _ _ (accumulated_quiet w.accumulator) (cond_quiet w.replace None None refl refl)

-- so it is at every column of a row
pub row_quiet : (w : WriteBack) (mc mv cc cv tc tv : List ℕ) (j : ℕ) → lookup cc cv j ≡ None
    → lookup tc tv j ≡ None → written_row w mc mv cc cv tc tv j ≡ None
row_quiet w mc mv cc cv tc tv j a b = rw (a, b) (written_quiet w (lookup mc mv j))
