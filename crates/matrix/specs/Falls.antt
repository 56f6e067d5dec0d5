-- Where the words from N before the column numbers on do not rise: how the code tests all rows at once.
use Rattle.std.specs.Prelude.{ℕ, ◌+◌, List, Bool, ltb}
use Rattle.conditions.specs.Tests.{◌and◌}
use Rattle.column_order.specs.Falls.{falls_after, count}
use Rattle.matrix.specs.Layout.{rows, start, count_at}

-- row i has entries, and the first of its column numbers is not above the word before it
abbrev pub falls_at_start : List ℕ → ℕ → Bool
falls_at_start s i = ltb (start s i) (start s (i + 1)) and falls_after s (count_at (rows s) + start s i)

-- in how many rows
unfoldable pub start_falls : List ℕ → ℕ
start_falls s = count (rows s) (falls_at_start s)
