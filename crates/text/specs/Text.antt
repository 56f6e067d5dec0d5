-- A matrix as text (document 02, A1): "a line "R C N", then a line "row column value" for each entry in order, signed
-- decimals, each line ended by a newline byte".
use Rattle.std.specs.Prelude.{ℕ, zero, suc, ◌+◌, ◌*◌, ◌≡◌, refl, List, [], ◌∷◌, ◌++◌, cond, length, drop, leb, eqb}
use Rattle.std.specs.Prelude.{Result, Ok, Err}
use Rattle.limits.specs.Limits.{max_entries}
use Rattle.answers.specs.declared.Refusal.{Refusal}
use Rattle.answers.specs.Refusals.{invalid_first, insufficient_space}
use Rattle.answers.specs.Results.{number}
use Rattle.grid.specs.Cell.{Cell}
use Rattle.grid.specs.Grid.{Grid}
use Rattle.grid.specs.Entries.{gather, entry_count}
use Rattle.matrix.specs.Layout.{grid_of}
use Rattle.matrix.specs.Valid.{valid}
use Rattle.decimals.specs.Decimal.{decimal, signed_decimal}

abbrev pub newline : ℕ
newline = 10

abbrev pub space : ℕ
space = 32

-- three numbers in a line
abbrev pub line : List ℕ → List ℕ → List ℕ → List ℕ
line a b c = a ++ ((space ∷ []) ++ (b ++ ((space ∷ []) ++ (c ++ (newline ∷ [])))))

-- "R C N"
abbrev pub head_line : ℕ → ℕ → ℕ → List ℕ
head_line r c n = line (decimal r) (decimal c) (decimal n)

-- "row column value"; a value is kept as its word in two's complement
abbrev pub entry_line : ℕ → ℕ → ℕ → List ℕ
entry_line i j v = line (decimal i) (decimal j) (signed_decimal v)

-- lists of bytes one after the other
unfoldable pub joined : List (List ℕ) → List ℕ
joined [] = []
joined (x ∷ xs) = x ++ joined xs

-- the lines of row i, from left to right in n columns
abbrev pub row_text : ℕ → ℕ → (ℕ → Cell) → List ℕ
row_text n i row = joined (gather (entry_line i) n row)

-- those of the first r rows, row by row
unfoldable pub rows_text : ℕ → (ℕ → ℕ → Cell) → ℕ → List ℕ
rows_text n cell zero = []
rows_text n cell (suc r) = rows_text n cell r ++ row_text n r (cell r)

-- the text of a grid
abbrev pub text_of : Grid → List ℕ
text_of g = head_line g.rows g.cols (entry_count g) ++ rows_text g.cols g.cell g.rows

-- The largest text has the line "1000 1000 2048" and 2,048 lines such as "100 100 -2147483648".
abbrev pub max_text_bytes : ℕ
max_text_bytes = 15 + max_entries * 20

largest_text : max_text_bytes ≡ 40975
largest_text = refl

-- 0 and how many bytes were written, or a refusal code and 0
pub record TextAnswer : Type 0 where
  pub code : ℕ
  pub length : ℕ

-- that, from what the writer of a text gives
abbrev pub text_result : Result ℕ Refusal → TextAnswer
text_result (Ok n) = record { code = 0; length = n }
text_result (Err r) = record { code = number r; length = 0 }

-- What the writer of a text answers: 3 where the words are no valid matrix; 11 where the buffer is shorter than the
-- largest text; else 0 and how many bytes were written.
unfoldable pub text_answer : List ℕ → ℕ → TextAnswer
text_answer s room =
    cond (valid s)
    (cond (leb max_text_bytes room)
    (record { code = 0; length = length (text_of (grid_of s)) })
    (record { code = insufficient_space; length = 0 }))
    (record { code = invalid_first; length = 0 })

-- the text at the front; a refusal changes nothing, and the bytes behind the text stay
unfoldable pub text_bytes : List ℕ → List ℕ → List ℕ
text_bytes s b =
    cond (eqb (text_answer s (length b)).code 0) (text_of (grid_of s) ++ drop (length (text_of (grid_of s))) b) b

-- the answer and every byte of the buffer
pub record TextWritten (s b : List ℕ) (answer : TextAnswer) (b' : List ℕ) : Type 0 where
  pub answer_is : answer ≡ text_answer s (length b)
  pub bytes_are : b' ≡ text_bytes s b
