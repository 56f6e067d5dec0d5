-- The lines of a row that is given by its column numbers and its values: what the loop over its entries requires and
-- leaves. proofs/RowLines.antt ties them to `row_text`.
use Rattle.std.specs.Prelude.{ℕ, zero, suc, List, [], ◌++◌}
use Rattle.words.specs.Words.{at}
use Rattle.text.specs.Text.{entry_line}

-- those of the first k entries
unfoldable pub lines_to : ℕ → List ℕ → List ℕ → ℕ → List ℕ
lines_to i cols vals zero = []
lines_to i cols vals (suc k) = lines_to i cols vals k ++ entry_line i (at cols k) (at vals k)
