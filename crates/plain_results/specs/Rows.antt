-- The rows of T one after another: what they need, and what is left of them.
use Rattle.std.specs.Prelude.{ℕ, ◌+◌, ◌≤◌, ◌<◌, ◌≡◌, List, length, take, Result, Ok, Err, None}
use Rattle.limits.specs.Limits.{max_rows, max_cols, max_entries}
use Rattle.answers.specs.declared.Refusal.{Refusal}
use Rattle.answers.specs.declared.Refusal.TheVariants.{TooManyEntries}
use Rattle.words.specs.Words.{at}
use Rattle.grid.specs.Grid.{Grid}
use Rattle.grid.specs.Entries.{column, value, flatten, entry_count}
use Rattle.matrix.specs.Layout.{rows, cols}
use Rattle.matrix.specs.Facts.{Matrix}
use Rattle.encoding.specs.Encode.{entries_before, encode, grid_size}
use Rattle.operations.specs.declared.Operation.{Operation}
use Rattle.result_rows.specs.RowInputs.{row_needs, RowInputs}

-- every row of T can be worked out, and T has the shape of old C
pub record Inputs (op : Operation) (a b c is js : List ℕ) : Type 0 where
  pub output : Matrix c
  pub row : (i : ℕ) → i < rows c → RowInputs op a b c is js i
  pub same_rows : (row_needs op a b c is js).result.rows ≡ rows c
  pub same_cols : (row_needs op a b c is js).result.cols ≡ cols c

-- row i has no entries
abbrev pub EmptyRow : Grid → ℕ → Type 0
EmptyRow g i = (j : ℕ) → g.cell i j ≡ None

-- room for the starts, and for one row more than the entries of a matrix
pub record Space (st oc ov : List ℕ) : Type 0 where
  pub starts : max_rows ≤ length st
  pub columns : max_entries + max_cols ≤ length oc
  pub values : max_entries + max_cols ≤ length ov

-- the first i rows of g, with n entries: where each begins, their column numbers and their values
pub record Rows (g : Grid) (i n : ℕ) (st oc ov : List ℕ) : Type 0 where
  pub count : n ≡ entries_before g i
  pub starts : (k : ℕ) → k < i → at st k ≡ entries_before g k
  pub columns : take n oc ≡ flatten column g.cols g.cell i
  pub values : take n ov ≡ flatten value g.cols g.cell i

-- the rows of g from i up to r have no entries, and their starts follow those of the first i, which have n entries
pub record Skipped (g : Grid) (total i n : ℕ) (st : List ℕ) (r : ℕ) (st' : List ℕ) : Type 0 where
  pub rises : i ≤ r
  pub within : r ≤ total
  pub size : length st' ≡ length st
  pub passes : (oc ov : List ℕ) → Rows g i n st oc ov → Rows g r n st' oc ov

-- all rows of g, with n entries, or the refusal of too many
abbrev pub AllRows : Grid → Result ℕ Refusal → List ℕ → List ℕ → List ℕ → Type 0
AllRows g (Ok n) starts oc ov = (n ≤ max_entries) × Rows g g.rows n starts oc ov
AllRows g (Err r) starts oc ov = (r ≡ TooManyEntries) × (max_entries < entry_count g)

-- the writing of g at the front of the words, with n entries, or the refusal of too many
abbrev pub Written : Grid → Result ℕ Refusal → List ℕ → Type 0
Written g (Ok n) w = (n ≡ entry_count g) × (n ≤ max_entries) × (take (grid_size g) w ≡ encode g)
Written g (Err r) w = (r ≡ TooManyEntries) × (max_entries < entry_count g)
