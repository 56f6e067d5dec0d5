-- How long a text is: no longer than `max_text_bytes`.
use Rattle.std.proofs.Common.{None, Some}
use Prim.Native.Nat.{ℕ, zero, suc, ◌+◌, ◌*◌, ◌^◌, ◌≤◌, ◌<◌}
use native.Mathlib.Omega.{arith}
use mathlib.Core.Path.{◌≡◌, refl}
use mathlib.Core.List.{List, append-nil}
use lib.ListN.{length, length-append}
use Rattle.limits.specs.Limits.{max_rows, max_cols}
use Rattle.grid.specs.Cell.{Cell}
use Rattle.grid.specs.Entries.{column, one, gather, flatten, entry_count}
use Rattle.matrix.specs.Layout.{rows, cols, cell_of, grid_of}
use Rattle.matrix.specs.Facts.{Matrix}
use Rattle.matrix.proofs.Facts.{matrix_made}
use Rattle.encoding.specs.OneWriting.{AreWords}
use Rattle.encoding.proofs.OneWriting.{one_writing}
use Rattle.encoding.proofs.Decoded.{valid_entries}
use Rattle.decimals.specs.Decimal.{decimal, signed_decimal}
use Rattle.decimals.proofs.Lengths.{three_digits, four_digits, signed_short}
use Rattle.text.specs.Text.{line, head_line, entry_line, joined, row_text, rows_text, text_of, max_text_bytes}
use Rattle.text.proofs.RowLines.{joined_append}

-- a line: its three numbers, two spaces and a newline
pub line_length : (x y z : List ℕ) → length (line x y z) ≡ length x + length y + length z + 3
line_length x y z = simp length-append (omega arith)

-- "1000 1000 2048"
head_most : (r c n : ℕ) → r < 10000 → c < 10000 → n < 10000 → length (head_line r c n) ≤ 15
head_most r c n h k l =
    omega (
      arith,
      line_length (decimal r) (decimal c) (decimal n),
      four_digits r h (omega arith),
      four_digits c k (omega arith),
      four_digits n l (omega arith),
    )

-- "999 999 -2147483648"
entry_most : (i j v : ℕ) → i < max_rows → j < max_cols → v < 2 ^ 32 → length (entry_line i j v) ≤ 20
entry_most i j v h k l =
    omega (
      arith,
      line_length (decimal i) (decimal j) (signed_decimal v),
      three_digits i h (omega arith),
      three_digits j k (omega arith),
      signed_short v l,
    )

-- 20 bytes for each entry: of a cell, of a row, of several rows
module _ (i : ℕ) (h : i < max_rows) where
  cell_most : (j : ℕ) (x : Cell) → j < max_cols → ((v : ℕ) → x ≡ Some v → v < 2 ^ 32)
      → length (joined (one (entry_line i) j x)) ≤ length (one column j x) * 20
  unfolding joined one
  cell_most j None k w = omega arith
  cell_most j (Some v) k w = rw (append-nil (entry_line i j v)) (entry_most i j v h k (w v refl))

  row_most : (n : ℕ) (row : ℕ → Cell) → n ≤ max_cols → ((j v : ℕ) → j < n → row j ≡ Some v → v < 2 ^ 32)
      → length (row_text n i row) ≤ length (gather column n row) * 20
  unfolding gather joined
  row_most zero row k w = omega arith
  row_most (suc n) row k w =
      let p = row_most n row (omega arith) (λ j v l. w j v (omega arith)) in
      let q = cell_most n (row n) (omega arith) (λ v. w n v (omega arith)) in
      let a = length-append (joined (gather (entry_line i) n row)) (joined (one (entry_line i) n (row n))) in
      let b = length-append (gather column n row) (one column n (row n)) in
      rw (joined_append (gather (entry_line i) n row) (one (entry_line i) n (row n))) (omega arith)

rows_most : (n : ℕ) (cell : ℕ → ℕ → Cell) (r : ℕ) → r ≤ max_rows → n ≤ max_cols
    → ((i j v : ℕ) → i < r → j < n → cell i j ≡ Some v → v < 2 ^ 32)
    → length (rows_text n cell r) ≤ length (flatten column n cell r) * 20
unfolding flatten rows_text
rows_most n cell zero h k w = omega arith
rows_most n cell (suc r) h k w =
    let p = rows_most n cell r (omega arith) k (λ i j v l. w i j v (omega arith)) in
    let q = row_most r (omega arith) n (cell r) k (λ j v. w r j v (omega arith)) in
    let a = length-append (rows_text n cell r) (row_text n r (cell r)) in
    let b = length-append (flatten column n cell r) (gather column n (cell r)) in
    omega arith

-- the text of a valid matrix
pub text_most : (s : List ℕ) → Matrix s → AreWords s → length (text_of (grid_of s)) ≤ max_text_bytes
text_most s m w =
    let e = valid_entries s (matrix_made s m) in
    let p = head_most (rows s) (cols s) (entry_count (grid_of s)) (omega arith) (omega arith) (omega arith) in
    let q = rows_most (cols s) (cell_of s) (rows s) m.header.row_range.most m.header.col_range.most
    (one_writing.values_fit s w) in
    let h = head_line (rows s) (cols s) (entry_count (grid_of s)) in
    let a = length-append h (rows_text (cols s) (cell_of s) (rows s)) in
    omega arith
