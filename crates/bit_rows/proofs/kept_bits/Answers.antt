-- `kept_bits` has the bits that the second word lets through.
use Rattle.bit_rows.proofs.Keeping.{kept_marked, kept_unmarked}
use Rattle.bit_rows.proofs.kept_bits.Goals as goal

pub returns-then-complement : goal.returns-then-complement
returns-then-complement c = rw c.if-complement.true (kept_unmarked _ _)

pub returns-else-complement : goal.returns-else-complement
returns-else-complement c = rw c.if-complement.false (kept_marked _ _)
