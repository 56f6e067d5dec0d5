-- Texts, computed: document 01's strip, two rows with values at both ends of the range, a grid without entries.
use Rattle.std.specs.Prelude.{◌≡◌, refl, [], ◌∷◌, ◌++◌, length, Some}
use Rattle.twos_complement.specs.TwosComplement.{signed}
use Rattle.grid.specs.Grid.{Grid, empty_grid}
use Rattle.grid.specs.Entries.{one, gather, flatten}
use Rattle.grid.specs.Update.{with_cell}
use Rattle.decimals.specs.Decimal.{digits}
use Rattle.text.specs.Text.{entry_line, joined, rows_text, text_of}

-- 1 by 4 with 10, 20 and 40 at columns 0, 1 and 3
abbrev strip : Grid
strip = with_cell (with_cell (with_cell (empty_grid 1 4) 0 0 (Some 10)) 0 1 (Some 20)) 0 3 (Some 40)

-- "1 4 3", "0 0 10", "0 1 20", "0 3 40"
strip_text : text_of strip
    ≡ (49 ∷ 32 ∷ 52 ∷ 32 ∷ 51 ∷ 10 ∷ []) ++ ((48 ∷ 32 ∷ 48 ∷ 32 ∷ 49 ∷ 48 ∷ 10 ∷ [])
    ++ ((48 ∷ 32 ∷ 49 ∷ 32 ∷ 50 ∷ 48 ∷ 10 ∷ []) ++ (48 ∷ 32 ∷ 51 ∷ 32 ∷ 52 ∷ 48 ∷ 10 ∷ [])))
unfolding joined rows_text flatten gather one digits signed
strip_text = refl

-- -1 at (0, 1) and 0 at (1, 0): the first row's line comes first, though its column is the later one.
-- "2 2 2", "0 1 -1", "1 0 0"
rows_first : text_of (with_cell (with_cell (empty_grid 2 2) 1 0 (Some 0)) 0 1 (Some 4294967295))
    ≡ (50 ∷ 32 ∷ 50 ∷ 32 ∷ 50 ∷ 10 ∷ []) ++ ((48 ∷ 32 ∷ 49 ∷ 32 ∷ 45 ∷ 49 ∷ 10 ∷ [])
    ++ (49 ∷ 32 ∷ 48 ∷ 32 ∷ 48 ∷ 10 ∷ []))
unfolding joined rows_text flatten gather one digits signed
rows_first = refl

-- without entries the one line "3 2 0"
no_entries_lem : text_of (empty_grid 3 2) ≡ 51 ∷ 32 ∷ 50 ∷ 32 ∷ 48 ∷ 10 ∷ []
unfolding joined rows_text flatten gather one digits signed
no_entries_lem = refl

-- the longest line of an entry
longest_line : length (entry_line 999 999 2147483648) ≡ 20
unfolding digits signed
longest_line = refl
