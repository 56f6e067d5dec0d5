-- One step in a lent area: what the operands are, and what is left.
use Rattle.std.specs.Prelude.{ℕ, ◌+◌, ◌*◌, ◌≤◌, ◌<◌, ◌≡◌, true, false, List, length, take, drop}
use Rattle.limits.specs.Limits.{max_rows, max_cols, max_entries}
use Rattle.limits.specs.Ranges.{InRange}
use Rattle.grid.specs.Grid.{Grid}
use Rattle.grid.specs.Entries.{entry_count}
use Rattle.matrix.specs.Layout.{grid_of, max_matrix_words}
use Rattle.matrix.specs.Facts.{Matrix}
use Rattle.encoding.specs.Encode.{encode, grid_size}
use Rattle.operations.specs.declared.Operation.{Operation}
use Rattle.operations.specs.declared.Shape.{Shape}
use Rattle.operations.specs.Calls.{has_second, has_lists}
use Rattle.operations.specs.GridOperations.{shape_of}
use Rattle.results.specs.Staging.{Staged}
use Rattle.formula_values.specs.Values.{worth, value_code, step_grid, step_agrees, step}

-- the words of the operands: the first two regions of the area
abbrev pub left_words : List ℕ → List ℕ
left_words w = take max_matrix_words w

abbrev pub right_words : List ℕ → List ℕ
right_words w = take max_matrix_words (drop max_matrix_words w)

-- where T is put together
abbrev pub result_at : ℕ
result_at = 2 * max_matrix_words

-- T of operands in words
abbrev pub words_grid : Operation → List ℕ → List ℕ → Grid
words_grid op a b = step_grid op (grid_of a) (grid_of b)

-- T of the operands in an area
abbrev pub area_grid : Operation → List ℕ → Grid
area_grid op w = words_grid op (left_words w) (right_words w)

-- both operands are valid, and T's shape is one of a matrix
pub record Ready (op : Operation) (a b : List ℕ) : Type 0 where
  pub second : has_second op ≡ true
  pub lists : has_lists op ≡ false
  pub left : Matrix a
  pub right : Matrix b
  pub row_range : InRange max_rows (words_grid op a b).rows
  pub col_range : InRange max_cols (words_grid op a b).cols

-- and they stand in the area
pub record Operands (op : Operation) (w : List ℕ) : Type 0 where
  pub ready : Ready op (left_words w) (right_words w)
  pub space : 3 * max_matrix_words ≤ length w

-- and they agree
pub record Agreeing (op : Operation) (shape : Shape) (w : List ℕ) : Type 0 where
  pub operands : Operands op w
  pub agree : step_agrees op (grid_of (left_words w)) (grid_of (right_words w)) ≡ true
  pub shape_is : shape ≡ shape_of (area_grid op w)

-- i rows of T of the operands a and b are staged, with n entries
pub record Staging (op : Operation) (a b : List ℕ) (rows i n : ℕ) (w tc tv : List ℕ) : Type 0 where
  pub ready : Ready op a b
  pub agree : step_agrees op (grid_of a) (grid_of b) ≡ true
  pub rows_are : rows ≡ (words_grid op a b).rows
  pub within : i ≤ rows
  pub few : n ≤ max_entries
  pub left : left_words w ≡ a
  pub right : right_words w ≡ b
  pub space : 3 * max_matrix_words ≤ length w
  pub staged : Staged (words_grid op a b) i n (drop result_at w)
  pub columns : max_cols ≤ length tc
  pub values : max_cols ≤ length tv

-- after one more row the number of entries is n: the row is staged too, or there are too many
pub record Advanced (op : Operation) (a b : List ℕ) (rows i n : ℕ) (w tc tv : List ℕ) : Type 0 where
  pub more : n ≤ max_entries → Staging op a b rows (i + 1) n w tc tv
  pub full : max_entries < n → max_entries < entry_count (words_grid op a b)

-- all rows are staged, or there are too many entries
pub record Gathered (op : Operation) (a b : List ℕ) (n : ℕ) (w : List ℕ) : Type 0 where
  pub all : n ≤ max_entries → Staged (words_grid op a b) (words_grid op a b).rows n (drop result_at w)
  pub full : max_entries < n → max_entries < entry_count (words_grid op a b)

-- the refusal of the step, or 0 and T at the front
pub record Stepped (op : Operation) (w : List ℕ) (code : ℕ) (w' : List ℕ) : Type 0 where
  pub code_is : code ≡ value_code (step op (worth (grid_of (left_words w))) (worth (grid_of (right_words w))))
  pub written : code ≡ 0 → take (grid_size (area_grid op w)) w' ≡ encode (area_grid op w)
