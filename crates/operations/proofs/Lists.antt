-- The test of an index list and the facts it stands for.
use Prim.Native.Nat.{ℕ, ◌≤◌}
use mathlib.Core.Path.{◌≡◌}
use mathlib.Core.List.{List}
use mathlib.Core.Bool.{true}
use lib.ListN.{length}
use borrow.Author.Tests.{le-leb, leb-true, ltb-true}
use Rattle.limits.specs.Limits.{max_list}
use Rattle.conditions.specs.Tests.{◌and◌, all}
use Rattle.conditions.proofs.Tests.{and_left, and_right, all_at}
use Rattle.operations.specs.Calls.{index_fits, list_valid}
use Rattle.operations.specs.Lists.{IndexList}

pub list_facts : (n : ℕ) (l : List ℕ) → list_valid n l ≡ true → IndexList n l
unfolding list_valid
list_facts n l h₀ =
    let h₁ = and_right _ _ h₀ in
    record {
      least = leb-true _ _ (and_left _ _ h₀);
      most = leb-true _ _ (and_left _ _ h₁);
      below = λ k m. ltb-true _ _ (and_left _ _ (all_at (index_fits n l) (length l) k m (and_right _ _ h₁)));
    }

-- where the length is within its range, the indexes decide
pub list_decided : (n : ℕ) (l : List ℕ) → 1 ≤ length l → length l ≤ max_list
    → list_valid n l ≡ all (length l) (index_fits n l)
unfolding list_valid ◌and◌
list_decided n l a b = rw (le-leb _ _ a, le-leb _ _ b)
