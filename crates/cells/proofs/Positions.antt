-- The position that a read answers is at most the largest number of entries. Cited where the answer is packed.
use Prim.Native.Nat.{ℕ, ◌≤◌, ◌<◌}
use native.Mathlib.Omega.{arith}
use mathlib.Core.Path.{◌≡◌, refl}
use mathlib.Core.Bool.{Bool, true, false, cond}
use mathlib.Core.List.{List}
use lib.Dec.{ltb}
use borrow.Author.Tests.{ltb-true}
use Rattle.conditions.specs.Tests.{◌and◌}
use Rattle.conditions.proofs.Tests.{and_left, and_right}
use Rattle.limits.specs.Limits.{max_entries}
use Rattle.answers.specs.Refusals.{invalid_first, index_out_of_bounds}
use Rattle.answers.specs.Reads.{found_answer, refused_read}
use Rattle.grid.specs.declared.EntryAt.{EntryAt}
use Rattle.grid.specs.declared.EntryAt.TheVariants as entry
use Rattle.grid.specs.Position.{position_of, entry_at}
use Rattle.grid.proofs.Position.{entry_most}
use Rattle.matrix.specs.Layout.{rows, cols, grid_of}
use Rattle.matrix.specs.Valid.{valid}
use Rattle.encoding.proofs.Canonical.{valid_within}
use Rattle.cells.specs.Read.{read_answer}

-- an entry's answer has its position
found_position : (e : EntryAt) → (found_answer e).position ≡ position_of e
found_position (entry.Absent p) = refl
found_position (entry.Present v p) = refl

-- of a cell of a valid matrix
pub entry_few : (s : List ℕ) (i j : ℕ) → valid s ≡ true → i < rows s → j < cols s
    → (found_answer (entry_at (grid_of s) i j)).position ≤ max_entries
entry_few s i j v l m =
    let p = found_position (entry_at (grid_of s) i j) in
    let q = entry_most (grid_of s) i j l m in
    let w = (valid_within s v).few in
    omega arith

-- of any words
pub read_position : (s : List ℕ) (i j : ℕ) → (read_answer s i j).position ≤ max_entries
unfolding read_answer
read_position s i j = go (valid s) refl (ltb i (rows s) and ltb j (cols s)) refl
  where
    go : (b : Bool) → valid s ≡ b → (d : Bool) → (ltb i (rows s) and ltb j (cols s)) ≡ d
        → (cond b (cond d (found_answer (entry_at (grid_of s) i j)) (refused_read index_out_of_bounds))
        (refused_read invalid_first)).position ≤ max_entries
    go true v true t = entry_few s i j v (ltb-true _ _ (and_left _ _ t)) (ltb-true _ _ (and_right _ _ t))
    go true v false t = omega arith
    go false v d t = omega arith
