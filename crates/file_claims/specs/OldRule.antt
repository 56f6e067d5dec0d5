-- The reader's rule as it stood before A12: four sections from the first word on, in R + 2N + 7 words. It is stated to show
-- what an old reader makes of new files; no function goes by it.
use Rattle.std.specs.Prelude.{ℕ, ◌+◌, ◌*◌, ◌≡◌, refl, List, [], ◌∷◌, Bool, true, false, length, leb, eqb}
use Rattle.conditions.specs.Tests.{◌and◌, all}
use Rattle.limits.specs.Limits.{max_rows, max_cols, max_entries}
use Rattle.limits.specs.Ranges.{in_range}
use Rattle.words.specs.Words.{at, part}
use Rattle.rows.specs.Row.{rising}

-- "2, then rows R, columns C; R+1, then the row starts; N, then the column numbers; N, then the values"
abbrev pub old_rows : List ℕ → ℕ
old_rows h = at h 1

abbrev pub old_cols : List ℕ → ℕ
old_cols h = at h 2

abbrev pub old_start : List ℕ → ℕ → ℕ
old_start h i = at h (i + 4)

abbrev pub old_entries : List ℕ → ℕ
old_entries h = at h (old_rows h + 5)

abbrev pub old_size : List ℕ → ℕ
old_size h = old_rows h + old_entries h + old_entries h + 7

abbrev pub old_columns : List ℕ → ℕ → List ℕ
old_columns h i = part (old_rows h + 6 + old_start h i) (old_rows h + 6 + old_start h (i + 1)) h

-- the tests of a matrix
unfoldable pub old_valid : List ℕ → Bool
old_valid h =
    eqb (at h 0) 2
    and in_range max_rows (old_rows h)
    and in_range max_cols (old_cols h)
    and eqb (at h 3) (old_rows h + 1)
    and leb (old_entries h) max_entries
    and leb (old_size h) (length h)
    and eqb (at h (old_rows h + old_entries h + 6)) (old_entries h)
    and eqb (old_start h 0) 0
    and eqb (old_start h (old_rows h)) (old_entries h)
    and all (old_rows h) (λ i. leb (old_start h i) (old_start h (i + 1)))
    and all (old_rows h) (λ i. rising (old_cols h) 0 (old_columns h i))

-- a file of n bytes with the words h was one; else it was 15
unfoldable pub old_file : ℕ → List ℕ → Bool
old_file n h = old_valid h and eqb n (old_size h * 4)

-- document 01's strip, as it was written and as it is
abbrev strip : List ℕ
strip = 2 ∷ 1 ∷ 4 ∷ 2 ∷ 0 ∷ 3 ∷ 3 ∷ 0 ∷ 1 ∷ 3 ∷ 3 ∷ 10 ∷ 20 ∷ 40 ∷ []

strip_before : old_file 56 strip ≡ true
unfolding old_file old_valid ◌and◌ all in_range
strip_before = refl

strip_since : old_file 64 (1 ∷ 0 ∷ strip) ≡ false
unfolding old_file old_valid ◌and◌
strip_since = refl
