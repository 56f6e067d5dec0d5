-- What the steps of a merge are given and leave.
use Rattle.std.specs.Prelude.{ℕ, ◌+◌, ◌≡◌, List, length}
use Rattle.std.proofs.lemmas.List.Edits.{sets}
use Rattle.grid.specs.Cell.{Cell}
use Rattle.grid.specs.Entries.{column, value, one}
use Rattle.rows.specs.Row.{position, Rises}

-- a row with an index i into it that is the position of column q
pub record Cursor (cols vals : List ℕ) (i q : ℕ) : Type 0 where
  pub even : length vals ≡ length cols
  pub rises : Rises cols
  pub stands : i ≡ position q cols

-- the entry of a cell at column q, if there is one, put behind e entries: r entries then
pub record Put (cols vals cols' vals' : List ℕ) (e q : ℕ) (cell : Cell) (r : ℕ) : Type 0 where
  pub count : r ≡ e + length (one column q cell)
  pub columns : cols' ≡ sets cols e (one column q cell)
  pub values : vals' ≡ sets vals e (one value q cell)
