-- The text of a whole matrix: its first line and its rows, and the cases of `text_answer`, as the code reaches them.
use Prim.Native.Nat.{ℕ, ◌+◌, ◌≤◌, ◌<◌}
use native.Mathlib.Omega.{arith}
use mathlib.Core.Path.{◌≡◌, sym, ap, ◌∙◌}
use mathlib.Core.List.{List, ◌++◌}
use mathlib.Core.Bool.{true, false}
use lib.ListN.{length, drop, length-append}
use borrow.Author.Tests.{le-leb, lt-leb}
use Rattle.answers.specs.Refusals.{invalid_first, insufficient_space}
use Rattle.words.specs.Words.{overwrite}
use Rattle.grid.specs.Entries.{entry_count}
use Rattle.matrix.specs.Layout.{rows, cols, entries, cell_of, grid_of}
use Rattle.matrix.specs.Valid.{valid}
use Rattle.matrix.specs.Facts.{Matrix}
use Rattle.matrix.proofs.Facts.{matrix_made}
use Rattle.encoding.specs.OneWriting.{AreWords}
use Rattle.encoding.proofs.Decoded.{valid_entries}
use Rattle.append.specs.Appended.{Appended}
use Rattle.append.proofs.Appending.{appended_then}
use Rattle.decimals.specs.Decimal.{decimal}
use Rattle.decimals.proofs.Digits.{signed_small}
use Rattle.text.specs.Text.{
  line,
  head_line,
  entry_line,
  rows_text,
  text_of,
  max_text_bytes,
  text_answer,
  text_bytes,
  TextWritten,
}
use Rattle.text.proofs.Lengths.{text_most}

module _ (s : List ℕ) (m : Matrix s) where
  -- N is written as the third number of a line
  head_is : entry_line (rows s) (cols s) (entries s) ≡ head_line (rows s) (cols s) (entry_count (grid_of s))
  head_is =
      ap (line (decimal (rows s)) (decimal (cols s))) (signed_small (entries s) (omega arith)
      ∙ ap decimal (sym (valid_entries s (matrix_made s m))))

  text_length : length (text_of (grid_of s))
      ≡ length (entry_line (rows s) (cols s) (entries s)) + length (rows_text (cols s) (cell_of s) (rows s))
  text_length =
      length-append (head_line (rows s) (cols s) (entry_count (grid_of s))) (rows_text (cols s) (cell_of s) (rows s))
      ∙ ap (λ (x : List ℕ). length x + length (rows_text (cols s) (cell_of s) (rows s))) (sym head_is)

  -- both have room
  pub head_room : (b : List ℕ) → AreWords s → max_text_bytes ≤ length b
      → 0 + length (entry_line (rows s) (cols s) (entries s)) ≤ length b
  head_room b w h = let e = text_length in let f = text_most s m w in omega arith

  pub rows_room : (b t : List ℕ) (at : ℕ) → AreWords s → max_text_bytes ≤ length b
      → Appended (entry_line (rows s) (cols s) (entries s)) b t 0 at
      → at + length (rows_text (cols s) (cell_of s) (rows s)) ≤ length t
  rows_room b t at w h p =
      let e = text_length in let f = text_most s m w in omega (arith, p.next, p.kept)

  pub text_made : {b t u : List ℕ} {at to : ℕ} → Appended (entry_line (rows s) (cols s) (entries s)) b t 0 at
      → Appended (rows_text (cols s) (cell_of s) (rows s)) t u at to → Appended (text_of (grid_of s)) b u 0 to
  text_made p q = appended_then (rw head_is at p) q

  pub text_end : {b u : List ℕ} {to : ℕ} → AreWords s → Appended (text_of (grid_of s)) b u 0 to → to ≤ max_text_bytes
  text_end w p = let f = text_most s m w in omega (arith, p.next)

-- ---- the answer
module _ (s b : List ℕ) where
  pub no_matrix : valid s ≡ false → TextWritten s b (record { code = invalid_first; length = 0 }) b
  unfolding text_answer text_bytes
  no_matrix v = record { answer_is = rw v; bytes_are = rw v }

  pub text_short : valid s ≡ true → length b < max_text_bytes
      → TextWritten s b (record { code = insufficient_space; length = 0 }) b
  unfolding text_answer text_bytes
  text_short v l = let g = lt-leb _ _ l in record { answer_is = rw (v, g); bytes_are = rw (v, g) }

  pub text_written : valid s ≡ true → max_text_bytes ≤ length b → (b' : List ℕ) (n : ℕ)
      → Appended (text_of (grid_of s)) b b' 0 n → TextWritten s b (record { code = 0; length = n }) b'
  unfolding text_answer text_bytes overwrite
  text_written v l b' n p =
      let g = le-leb _ _ l in
      let e : n ≡ length (text_of (grid_of s)) = omega (arith, p.next) in
      let z : 0 + length (text_of (grid_of s)) ≡ length (text_of (grid_of s)) = omega arith in
      record {
        answer_is = rw (v, g) (ap (λ (k : ℕ). record { code = 0; length = k }) e);
        bytes_are = rw (v, g) (p.bytes ∙ ap (λ (k : ℕ). text_of (grid_of s) ++ drop k b) z);
      }
