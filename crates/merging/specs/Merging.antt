-- Merging on plain grids: what C becomes when matrices are merged into it one after the other, and lists that differ
-- only in order.
use Rattle.std.specs.Prelude.{ℕ, ◌^◌, ◌<◌, List, [], ◌∷◌, None, Some}
use Rattle.grid.specs.Cell.{Cell}
use Rattle.grid.specs.Grid.{Grid}
use Rattle.operators.specs.declared.BinaryOp.TheVariants.{Max}
use Rattle.operations.specs.CellOperations.{unite}

-- C with one matrix more: in each cell the larger of the two values where both are present, a lone one as it is
abbrev pub join : Grid → Grid → Grid
join c a = record { rows = c.rows; cols = c.cols; cell = λ i j. unite Max (c.cell i j) (a.cell i j) }

-- C with all of them, from the first of the list on
abbrev pub join_all : Grid → List Grid → Grid
join_all c [] = c
join_all c (a ∷ xs) = join_all (join c a) xs

infix 30 ◌∈◌
-- a stands in the list
pub data ◌∈◌ {A : Type 0} : A → List A → Type 0 where
  here : {a : A} {xs : List A} → a ∈ (a ∷ xs)
  there : {a b : A} {xs : List A} → a ∈ xs → a ∈ (b ∷ xs)

-- the same list in another order: neighbours exchanged, any number of times
pub data Rearranged {A : Type 0} : List A → List A → Type 0 where
  none : Rearranged [] []
  after : {a : A} {xs ys : List A} → Rearranged xs ys → Rearranged (a ∷ xs) (a ∷ ys)
  exchanged : {a b : A} {xs : List A} → Rearranged (a ∷ b ∷ xs) (b ∷ a ∷ xs)
  twice : {xs ys zs : List A} → Rearranged xs ys → Rearranged ys zs → Rearranged xs zs

-- the value of a cell is a word
abbrev pub Word : Cell → Type 0
Word None = Unit {0}
Word (Some v) = v < 2 ^ 32

-- a grid of words
pub record Worded (g : Grid) : Type 0 where
  pub word : (i j : ℕ) → i < g.rows → j < g.cols → Word (g.cell i j)
