-- `section_valid` is the test `section_valid`: the count against what is left, then the contents.
use native.Mathlib.Omega.{arith}
use Rattle.slots.proofs.Checks.{section_outside, contents_decide}
use Rattle.slots.proofs.section_valid.Goals as goal

pub returns-then-store-at : goal.returns-then-store-at
returns-then-store-at c = section_outside _ _ (omega arith)

pub returns-then-store-at-2 : goal.returns-then-store-at-2
returns-then-store-at-2 c = section_outside _ _ (omega arith)

pub returns : goal.returns
returns c = contents_decide _ _ _ (omega arith) c.contents_valid.ensures
