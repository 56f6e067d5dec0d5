-- The lines of a row in words are those of its cells.
use Rattle.std.proofs.Common.{None, Some}
use Prim.Native.Nat.{ℕ, zero, suc, ◌+◌, ◌≤◌, ◌<◌}
use native.Mathlib.Omega.{arith}
use native.Mathlib.Numerals.{add-one}
use mathlib.Core.Path.{◌≡◌, refl, sym, ap, ◌∙◌}
use mathlib.Core.List.{List, [], ◌∷◌, ◌++◌, append-nil, append_assoc}
use lib.ListN.{length, length-append, get_or-append}
use lib.Seq.{get_or_at}
use Rattle.words.specs.Words.{at}
use Rattle.grid.specs.Cell.{Cell}
use Rattle.grid.specs.Entries.{column, value, one, gather}
use Rattle.rows.specs.Row.{lookup}
use Rattle.rows.proofs.Lookup.{rising_row, gather_row, gather_lookup_columns, gather_lookup_values}
use Rattle.matrix.specs.Layout.{rows, cols, row_columns, row_values, cell_of}
use Rattle.matrix.specs.Facts.{Matrix}
use Rattle.matrix.proofs.Facts.{row_span}
use Rattle.matrix.proofs.Rows.{row_even}
use Rattle.text.specs.Text.{entry_line, joined, row_text}
use Rattle.text.specs.Lines.{lines_to}

-- one line more
pub lines_next : (i : ℕ) (cols vals : List ℕ) (k : ℕ)
    → lines_to i cols vals (k + 1) ≡ lines_to i cols vals k ++ entry_line i (at cols k) (at vals k)
unfolding lines_to
lines_next i cols vals k = rw add-one

-- lists of lines one after the other
pub joined_append : (x y : List (List ℕ)) → joined (x ++ y) ≡ joined x ++ joined y
unfolding joined
joined_append [] y = refl
joined_append (l ∷ x) y = rw (joined_append x y) (sym (append_assoc l (joined x) (joined y)))

-- what lies behind the first k entries plays no part
lines_front : (i : ℕ) (cols vals ds ws : List ℕ) (k : ℕ) → k ≤ length cols → length vals ≡ length cols
    → lines_to i (cols ++ ds) (vals ++ ws) k ≡ lines_to i cols vals k
unfolding lines_to
lines_front i cols vals ds ws zero h e = refl
lines_front i cols vals ds ws (suc k) h e =
    rw (
      lines_front i cols vals ds ws k (omega arith) e,
      get_or-append cols ds 0 k (omega arith),
      get_or-append vals ws 0 k (omega arith),
    )

-- the lines of a row that may hold an entry more
lines_more : (i n : ℕ) (cols vals : List ℕ) (x : Cell) → length vals ≡ length cols
    → lines_to i (cols ++ one column n x) (vals ++ one value n x) (length (cols ++ one column n x))
    ≡ lines_to i cols vals (length cols) ++ joined (one (entry_line i) n x)
unfolding one joined
lines_more i n cols vals None e =
    rw (append-nil cols, append-nil vals, append-nil (lines_to i cols vals (length cols)))
lines_more i n cols vals (Some v) e =
    let k : length (cols ++ (n ∷ [])) ≡ length cols + 1 = length-append cols (n ∷ []) in
    ap (lines_to i (cols ++ (n ∷ [])) (vals ++ (v ∷ []))) k
    ∙ lines_next i (cols ++ (n ∷ [])) (vals ++ (v ∷ [])) (length cols)
    ∙ rw (
      lines_front i cols vals (n ∷ []) (v ∷ []) (length cols) (omega arith) e,
      get_or_at cols n [] 0 (length cols) refl,
      get_or_at vals v [] 0 (length cols) e,
      append-nil (entry_line i n v),
    )

-- the lines of the entries that are gathered
lines_gathered : (i n : ℕ) (row : ℕ → Cell)
    → lines_to i (gather column n row) (gather value n row) (length (gather column n row)) ≡ row_text n i row
unfolding gather joined lines_to
lines_gathered i zero row = refl
lines_gathered i (suc n) row =
    lines_more i n (gather column n row) (gather value n row) (row n) (gather_row n row).even
    ∙ ap (λ (l : List ℕ). l ++ joined (one (entry_line i) n (row n))) (lines_gathered i n row)
    ∙ sym (joined_append (gather (entry_line i) n row) (one (entry_line i) n (row n)))

-- row i of a valid matrix
pub row_lines : (s : List ℕ) (i : ℕ) → Matrix s → i < rows s
    → lines_to i (row_columns s i) (row_values s i) (length (row_columns s i)) ≡ row_text (cols s) i (cell_of s i)
unfolding cell_of
row_lines s i m l =
    let w = rising_row (cols s) (row_columns s i) (row_values s i) (m.rising i l)
    (row_even s i m.header (row_span s m.starts i l)) in
    let f = lookup (row_columns s i) (row_values s i) in
    let c = gather_lookup_columns w in
    let v = gather_lookup_values w in
    sym (ap (λ (x : List ℕ). lines_to i x (row_values s i) (length x)) c)
    ∙ sym (ap (λ (x : List ℕ). lines_to i (gather column (cols s) f) x (length (gather column (cols s) f))) v)
    ∙ lines_gathered i (cols s) f
