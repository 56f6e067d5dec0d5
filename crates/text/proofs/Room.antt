-- The loops over the entries of a row and over the rows: the room that a turn finds, and what it leaves.
use Prim.Native.Nat.{ℕ, zero, suc, ◌+◌, ◌≤◌, ◌<◌}
use native.Mathlib.Omega.{arith}
use native.Mathlib.Decide.{dec_lt}
use native.Mathlib.Nat.{le_refl}
use native.Mathlib.Numerals.{add-one}
use mathlib.Core.Path.{◌≡◌, refl, ap}
use mathlib.Core.List.{List, ◌++◌}
use lib.ListN.{length, length-append}
use Rattle.words.specs.Words.{at}
use Rattle.matrix.specs.Layout.{rows, cols, row_columns, row_values, cell_of}
use Rattle.matrix.specs.Facts.{Matrix}
use Rattle.append.specs.Appended.{Appended}
use Rattle.append.proofs.Appending.{appended_none, appended_then}
use Rattle.text.specs.Text.{entry_line, row_text, rows_text}
use Rattle.text.specs.Lines.{lines_to}
use Rattle.text.proofs.RowLines.{lines_next, row_lines}

-- lists of bytes that grow by appending: none is shorter than one before it
grows : (f g : ℕ → List ℕ) → ((k : ℕ) → f (suc k) ≡ f k ++ g k) → (k n : ℕ) → k ≤ n → length (f k) ≤ length (f n)
grows f g step k zero h = let e : k ≡ zero = omega arith in rw e (le_refl (length (f zero)))
grows f g step k (suc n) h = go (dec_lt n k) (λ l. grows f g step k n l)
  where
    go : Dec (n < k) → (k ≤ n → length (f k) ≤ length (f n)) → length (f k) ≤ length (f (suc n))
    go (yes l) p = let e : k ≡ suc n = omega arith in rw e (le_refl (length (f (suc n))))
    go (no l) p =
        let q = p (omega arith) in
        let a = length-append (f n) (g n) in
        rw (step n) (omega arith)

-- ---- the entries of a row
module _ (i : ℕ) (cols vals : List ℕ) where
  pub lines_start : (s : List ℕ) (from : ℕ) → from ≤ length s → Appended (lines_to i cols vals 0) s s from from
  unfolding lines_to
  lines_start s from h = appended_none s from h

  -- the line of entry k has room
  pub line_room : (k n from b : ℕ) (s t : List ℕ) → k < n → from + length (lines_to i cols vals n) ≤ length s
      → Appended (lines_to i cols vals k) s t from b → b + length (entry_line i (at cols k) (at vals k)) ≤ length t
  unfolding lines_to
  line_room k n from b s t h l p =
      let f : ℕ → List ℕ = λ j. entry_line i (at cols j) (at vals j) in
      let g = grows (lines_to i cols vals) f (λ j. refl) (suc k) n (omega arith) in
      let a = length-append (lines_to i cols vals k) (entry_line i (at cols k) (at vals k)) in
      omega (arith, p.next, p.kept)

  pub lines_turn : (k : ℕ) {s t u : List ℕ} {from b c : ℕ} → Appended (lines_to i cols vals k) s t from b
      → Appended (entry_line i (at cols k) (at vals k)) t u b c → Appended (lines_to i cols vals (k + 1)) s u from c
  lines_turn k p q = rw (lines_next i cols vals k) (appended_then p q)

-- ---- the rows of a matrix
module _ (w : List ℕ) where
  abbrev pub text_to : ℕ → List ℕ
  text_to i = rows_text (cols w) (cell_of w) i

  pub rows_start : (s : List ℕ) (from : ℕ) → from ≤ length s → Appended (text_to 0) s s from from
  unfolding rows_text
  rows_start s from h = appended_none s from h

  rows_next : (i : ℕ) → text_to (suc i) ≡ text_to i ++ row_text (cols w) i (cell_of w i)
  unfolding rows_text
  rows_next i = refl

  -- the lines of row i have room
  pub row_room : (i from b : ℕ) (s t : List ℕ) → Matrix w → i < rows w → from + length (text_to (rows w)) ≤ length s
      → Appended (text_to i) s t from b
      → b + length (lines_to i (row_columns w i) (row_values w i) (length (row_columns w i))) ≤ length t
  row_room i from b s t m h l p =
      let g = grows text_to (λ j. row_text (cols w) j (cell_of w j)) rows_next (suc i) (rows w) (omega arith) in
      let n = ap length (rows_next i) in
      let a = length-append (text_to i) (row_text (cols w) i (cell_of w i)) in
      let e = ap length (row_lines w i m h) in
      omega (arith, p.next, p.kept)

  pub rows_turn : (i : ℕ) {s t u : List ℕ} {from b c : ℕ} → Matrix w → i < rows w → Appended (text_to i) s t from b
      → Appended (lines_to i (row_columns w i) (row_values w i) (length (row_columns w i))) t u b c
      → Appended (text_to (i + 1)) s u from c
  rows_turn i m h p q = rw (add-one i, rows_next i) (appended_then p (rw (row_lines w i m h) at q))
