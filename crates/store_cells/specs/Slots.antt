-- What the functions on one slot require, and what they leave.
use Rattle.std.specs.Prelude.{ℕ, ◌≤◌, ◌<◌, ◌≡◌, List, None, Some}
use Rattle.limits.specs.Limits.{slot_count, max_rows}
use Rattle.answers.specs.Answers.{Answer}
use Rattle.answers.specs.Refusals.{accepted}
use Rattle.grid.specs.Cell.{Cell}
use Rattle.grid.specs.Grid.{Grid}
use Rattle.grid.specs.Entries.{entry_count}
use Rattle.grid.specs.Update.{with_cell}
use Rattle.grid.specs.Revision.{updating, revision_after}
use Rattle.matrix.specs.Layout.{revision, rows, cols, grid_of}
use Rattle.encoding.specs.Encode.{encode_revised}
use Rattle.refusals.specs.Cases.{first_applying}
use Rattle.slots.specs.Sections.{end_from, slot_at}
use Rattle.slots.specs.Facts.{Held, Store}
use Rattle.slots.specs.Room.{slot_put}
use Rattle.model.specs.Model.{Model}
use Rattle.model.specs.Calls.{shape_cases, cell_cases}
use Rattle.store_encoding.specs.Placing.{Placed}

-- 12 and 8 of an empty matrix, and 12, 13 and 7 of a call that names a cell
unfoldable pub shape_refusal : ℕ → ℕ → ℕ → ℕ
shape_refusal k r c = first_applying (shape_cases k r c)

unfoldable pub cell_refusal : Model → ℕ → ℕ → ℕ → ℕ
cell_refusal m k i j = first_applying (cell_cases m k i j)

-- a store whose sections end at `end`, a slot of it, and the rows of an empty matrix for it
pub record Layable (s : List ℕ) (k end r : ℕ) : Type 0 where
  pub store : Store s
  pub slot : k < slot_count
  pub ends : end ≡ end_from slot_count s
  pub rows : r ≤ max_rows

-- a store, a slot that holds a matrix, and a row and a column of it
pub record CellOf (s : List ℕ) (k i j : ℕ) : Type 0 where
  pub store : Store s
  pub slot : k < slot_count
  pub held : Held (slot_at s k)
  pub row : i < rows (slot_at s k)
  pub col : j < cols (slot_at s k)

-- the grid of a slot, and the same with one cell changed
abbrev pub slot_grid : List ℕ → ℕ → Grid
slot_grid s k = grid_of (slot_at s k)

abbrev pub slot_with : List ℕ → ℕ → ℕ → ℕ → Cell → Grid
slot_with s k i j x = with_cell (slot_grid s k) i j x

-- the revision of a slot after a call that writes into it
abbrev pub slot_next : List ℕ → ℕ → ℕ
slot_next s k = revision_after updating (revision (slot_at s k))

-- the words of a store with the grid g in slot k, with revision v
abbrev pub grid_put : List ℕ → ℕ → ℕ → Grid → List ℕ
grid_put s k v g = slot_put s k (encode_revised v g)

-- an accepted write: the grid g in slot k, with revision v, and its entries
pub record Put (s : List ℕ) (k v : ℕ) (g : Grid) (answer : Answer) (s' : List ℕ) : Type 0 where
  pub answer_is : answer ≡ accepted (entry_count g)
  pub words_are : s' ≡ grid_put s k v g

-- a cell of slot k set, unless by 10 or 11; and cleared, which nothing refuses
abbrev pub CellSet : List ℕ → ℕ → ℕ → ℕ → ℕ → Answer → List ℕ → Type 0
CellSet s k i j v answer s' = Placed s k (slot_next s k) (slot_with s k i j (Some v)) answer s'

abbrev pub CellCleared : List ℕ → ℕ → ℕ → ℕ → Answer → List ℕ → Type 0
CellCleared s k i j answer s' = Put s k (slot_next s k) (slot_with s k i j None) answer s'
