-- A result whose column numbers are in their place, and whose row starts and values stand in lists of their own.
use Rattle.std.specs.Prelude.{ℕ, ◌+◌, ◌≤◌, ◌≡◌, List, length, set}
use Rattle.limits.specs.Limits.{max_rows, max_cols, max_entries}
use Rattle.words.specs.Words.{overwrite}
use Rattle.matrix.specs.Layout.{starts_at, values_at, max_matrix_words}
use Rattle.matrix.specs.HeaderWords.{headed}

-- r starts, and the values
pub record SectionBounds (r c : ℕ) (st vs w : List ℕ) : Type 0 where
  pub rows : r ≤ max_rows
  pub cols : c ≤ max_cols
  pub starts : length st ≡ r
  pub few : length vs ≤ max_entries
  pub space : max_matrix_words ≤ length w

-- both in their places, the last start, and the header
abbrev pub joined : ℕ → ℕ → List ℕ → List ℕ → List ℕ → List ℕ
joined r c st vs w =
    headed r c (length vs)
    (set (overwrite (values_at r (length vs)) vs (overwrite starts_at st w)) (r + starts_at) (length vs))
