-- The test of a number of rows or columns, and what it says, both ways.
use Prim.Native.Nat.{ℕ}
use mathlib.Core.Path.{◌≡◌}
use mathlib.Core.Bool.{true}
use borrow.Author.Tests.{le-leb, leb-true}
use Rattle.conditions.proofs.Tests.{and_left, and_right, and_both}
use Rattle.limits.specs.Ranges.{in_range, InRange}

pub range_made : {limit x : ℕ} → InRange limit x → in_range limit x ≡ true
unfolding in_range
range_made h = and_both (le-leb _ _ h.least) (le-leb _ _ h.most)

pub range_facts : (limit x : ℕ) → in_range limit x ≡ true → InRange limit x
unfolding in_range
range_facts limit x h = record { least = leb-true _ _ (and_left _ _ h); most = leb-true _ _ (and_right _ _ h) }
