-- `mark_at` is the column's bit, by its definition.
use mathlib.Core.Path.{refl}
use Rattle.bit_rows.specs.Bits.{bit}
use Rattle.bit_rows.proofs.mark_at.Goals as goal

pub returns : goal.returns
unfolding bit
returns c = refl
