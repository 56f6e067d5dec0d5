-- The staged words, finished and copied over the front of a buffer.
use Prim.Native.Nat.{ℕ, ◌≤◌}
use native.Mathlib.Omega.{arith}
use native.Mathlib.Nat.{zero-add}
use mathlib.Core.Path.{◌≡◌, sym, ap, subst, ◌∙◌}
use mathlib.Core.List.{List, ◌++◌}
use lib.ListN.{length, take, drop}
use lib.Seq.{take-append_seam}
use Rattle.limits.specs.Limits.{max_rows, max_cols, max_entries}
use Rattle.words.specs.Words.{overwrite}
use Rattle.grid.specs.Grid.{Grid}
use Rattle.grid.specs.Entries.{entry_count}
use Rattle.matrix.specs.Layout.{size_of, max_matrix_words}
use Rattle.encoding.specs.Encode.{encode, grid_size, written_over}
use Rattle.encoding.proofs.Canonical.{encode_length}
use Rattle.results.specs.Staging.{Staged, ResultBounds, finished}
use Rattle.results.proofs.Finished.{finished_written}

-- the writing of a grid at the front of the words
pub front_held : (g : Grid) (n r c k : ℕ) (w w' : List ℕ) → n ≡ entry_count g → r ≡ g.rows → c ≡ g.cols
    → k ≡ size_of r n → g.rows ≤ max_rows → g.cols ≤ max_cols → n ≤ max_entries → max_matrix_words ≤ length w
    → Staged g g.rows (entry_count g) w → w' ≡ finished r c n w → take k w' ≡ encode g
front_held g n r c k w w' e er ec ek rows cols few space s h =
    let b : ResultBounds g.rows g.cols n w =
    record { rows = rows; cols = cols; few = few; space = space } in
    let s' = subst (λ (x : ℕ). Staged g g.rows x w) (sym e) s in
    let h' : w' ≡ finished g.rows g.cols n w = h ∙ rw (er, ec) in
    let v : w' ≡ written_over g w' = h' ∙ finished_written g n w b s' ∙ ap (written_over g) (sym h') in
    let z : k ≡ length (encode g) = omega (arith, encode_length 0 g) in
    ap (take k) v ∙ ap (λ (x : ℕ). take x (written_over g w')) z ∙ take-append_seam (encode g) (drop (grid_size g) w')

-- copied over the front of others
pub front_copied : (g : Grid) (x out : List ℕ) → x ≡ encode g → overwrite 0 x out ≡ written_over g out
unfolding overwrite
front_copied g x out e =
    ap (λ (y : List ℕ). overwrite 0 y out) e
    ∙ ap (λ (k : ℕ). encode g ++ drop k out) (zero-add (length (encode g)) ∙ encode_length 0 g)
