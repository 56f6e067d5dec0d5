-- `with_bit` sets one bit: the shift loses nothing.
use native.Mathlib.Omega.{arith}
use lib.Pow.{shl_exact}
use Rattle.bit_rows.proofs.Bits.{set_bit}
use Rattle.bit_rows.proofs.with_bit.Goals as goal

pub returns : goal.returns
returns c = rw (shl_exact {a = 1} 1 c.args.s 64 (omega arith) (omega arith)) (set_bit _ _)
