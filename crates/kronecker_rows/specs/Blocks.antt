-- One block of a row of the Kronecker product.
use Rattle.std.specs.Prelude.{ℕ, ◌+◌, ◌<◌, ◌≡◌, List, Some}
use Rattle.grid.specs.Cell.{Cell}
use Rattle.operators.specs.declared.BinaryOp.{BinaryOp}
use Rattle.operations.specs.CellOperations.{intersect}
use Rattle.rows.specs.Row.{lookup, Holds}

-- the cells of f in the n columns from `base` on are the operator's on x and a row's
abbrev pub Block : BinaryOp → ℕ → ℕ → ℕ → List ℕ → List ℕ → (ℕ → Cell) → Type 0
Block op x base n cols vals f = (l : ℕ) → l < n → f (base + l) ≡ intersect op (Some x) (lookup cols vals l)

-- they follow those before them, whatever these are
abbrev pub BlockAdded : BinaryOp → ℕ → ℕ → ℕ → List ℕ → List ℕ → List ℕ → List ℕ → ℕ → List ℕ → List ℕ → ℕ → Type 0
BlockAdded op x base n cols vals oc ov e oc' ov' e' =
    (f : ℕ → Cell) → Block op x base n cols vals f → Holds base f e oc ov → Holds (base + n) f e' oc' ov'
