-- The words of the day matrix and of the marks after a call: valid, and with the grid that was written.
use Prim.Native.Nat.{ℕ, ◌≤◌}
use native.Mathlib.Omega.{arith}
use mathlib.Core.Path.{◌≡◌, ap}
use mathlib.Core.List.{List}
use lib.ListN.{length, drop}
use Rattle.limits.specs.Limits.{max_entries}
use Rattle.grid.specs.Cell.{Cell}
use Rattle.grid.specs.Grid.{Grid, Same}
use Rattle.grid.specs.Entries.{column, flatten, entry_count}
use Rattle.grid.specs.Update.{with_cell}
use Rattle.grid.proofs.Gather.{gather_most}
use Rattle.matrix.specs.Layout.{rows, cols, grid_of}
use Rattle.matrix.specs.Facts.{Matrix}
use Rattle.matrix.proofs.Facts.{matrix_facts, row_span}
use Rattle.encoding.specs.Encode.{grid_size, Within, written_revised}
use Rattle.encoding.proofs.Canonical.{encode_valid, encode_same}
use Rattle.day_grids.specs.Day.{with_row}
use Rattle.day_requests.specs.Ready.{Day, Backable}
use Rattle.day_calls.specs.Calls.{day_without}
use Rattle.day_calls.proofs.Replacing.{count_without}

-- a grid that was written over words
pub record Holds (g : Grid) (s : List ℕ) : Type 0 where
  pub matrix : Matrix s
  pub same : Same (grid_of s) g

-- what the contracts say of the words, `written_revised`, gives that
pub written_holds : (v : ℕ) (g : Grid) (w s : List ℕ) → Within g → s ≡ written_revised v g w → Holds g s
written_holds v g w s h e =
    rw e (record {
      matrix = matrix_facts (written_revised v g w) (encode_valid v g (drop (grid_size g) w) h);
      same = encode_same v g (drop (grid_size g) w);
    })

-- a matrix with another row can be written, if its entries are not too many
pub row_within : {s : List ℕ} (i : ℕ) (row : ℕ → Cell) → Matrix s → entry_count (with_row (grid_of s) i row) ≤ max_entries
    → Within (with_row (grid_of s) i row)
row_within i row m few = record { row_range = m.header.row_range; col_range = m.header.col_range; few = few }

-- they are not, where a row goes
pub without_few : {day marks : List ℕ} {i : ℕ} (b : Backable day marks i) → entry_count (day_without day i) ≤ max_entries
without_few {day} {marks} {i} b =
    let m = b.over.day_valid in
    let x = row_span day m.starts i b.row in
    omega (arith, count_without b, x.up, x.top, m.header.few)

-- a vector has no more entries than columns
vector_few : (g : Grid) → g.rows ≡ 1 → entry_count g ≤ g.cols
unfolding flatten
vector_few g e =
    let f = ap (λ (r : ℕ). length (flatten column g.cols g.cell r)) e in
    let m = gather_most column (g.cell 0) g.cols in
    omega arith

-- marks with another mark
pub mark_within : {s : List ℕ} (i : ℕ) (x : Cell) → Matrix s → rows s ≡ 1 → Within (with_cell (grid_of s) 0 i x)
mark_within {s} i x m e =
    let f = vector_few (with_cell (grid_of s) 0 i x) e in
    record {
      row_range = m.header.row_range;
      col_range = m.header.col_range;
      few = omega (arith, f, m.header.col_range.most);
    }

-- the day matrix and the marks still fit together
pub day_kept : {day marks day' marks' : List ℕ} (g h : Grid) → Day day marks → g.rows ≡ rows day → h.rows ≡ rows marks
    → h.cols ≡ cols marks → Holds g day' → Holds h marks' → Day day' marks'
day_kept g h o e f k d m = record {
  day_valid = d.matrix;
  marks_valid = m.matrix;
  one_row = omega (arith, m.same.rows, f, o.one_row);
  mark_rows = omega (arith, m.same.cols, k, o.mark_rows, d.same.rows, e);
}
