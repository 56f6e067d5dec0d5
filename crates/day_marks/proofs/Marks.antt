-- A mark that was searched: what is known where it was found and where it was missed.
use Rattle.std.proofs.Common.{None}
use Prim.Native.Nat.{ℕ, ◌+◌, ◌≤◌}
use native.Mathlib.Omega.{arith}
use native.Mathlib.Decide.{ℕ_discrete}
use mathlib.Core.Path.{◌≡◌, refl, sym, ap, ◌∙◌}
use mathlib.Core.Bool.{true, false}
use mathlib.Core.List.{List, ◌++◌}
use lib.ListN.{length, drop}
use Rattle.grid.specs.declared.EntryAt.{EntryAt}
use Rattle.grid.specs.declared.EntryAt.TheVariants as entry
use Rattle.grid.specs.Grid.{Grid, Same}
use Rattle.grid.specs.Entries.{column, flatten}
use Rattle.grid.specs.Revision.{next_revision}
use Rattle.grid.specs.Position.{position_of, entry_at, AbsentAt}
use Rattle.grid.proofs.Gather.{gather_most}
use Rattle.grid.proofs.Position.{absent_at, present_at}
use Rattle.grid.proofs.Same.{same_size}
use Rattle.matrix.specs.Layout.{size_of, revision, rows, cols, entries, size, cell_of, grid_of}
use Rattle.matrix.specs.HeaderWords.{touched}
use Rattle.matrix.proofs.Facts.{matrix_made}
use Rattle.encoding.specs.Encode.{encode_revised, grid_size}
use Rattle.encoding.proofs.Canonical.{valid_entries, valid_touched, encode_ext}
use Rattle.edits.specs.Changes.{InMatrix, HasSpace, updated}
use Rattle.edits.proofs.Around.{changed_here, changed_other}
use Rattle.day_grids.specs.Day.{marking, marked, taken_marks}
use Rattle.day_marks.specs.Marks.{Vector, mark_words}

-- its column
pub in_vector : {s : List ℕ} {i : ℕ} → Vector s i → InMatrix s 0 i
in_vector v = record { matrix = v.matrix; row = omega (arith, v.one_row); col = v.col }

-- a row whose mark was missed is not marked
pub found_unmarked : (g : Grid) (i : ℕ) {p : ℕ} {e : EntryAt} → e ≡ entry_at g 0 i → e ≡ entry.Absent p
    → marked g i ≡ false
unfolding marking
found_unmarked g i h k = ap marking (absent_at (sym h ∙ k)).cell

-- a row whose mark was found, whatever its value, is marked
pub found_marked : (g : Grid) (i : ℕ) {v p : ℕ} {e : EntryAt} → e ≡ entry_at g 0 i → e ≡ entry.Present v p
    → marked g i ≡ true
unfolding marking
found_marked g i h k = ap marking (present_at (sym h ∙ k)).cell

-- a vector has no more entries than columns
vector_few : {s : List ℕ} {i : ℕ} → Vector s i → entries s ≤ cols s
unfolding flatten
vector_few {s} v =
    let e = valid_entries s (matrix_made s v.matrix) in
    let f = ap (λ (r : ℕ). length (flatten column (cols s) (cell_of s) r)) v.one_row in
    let g = gather_most column (cell_of s 0) (cols s) in
    omega arith

-- where a mark that was missed would be put
pub absent_placed : {g : Grid} {i p q : ℕ} {e : EntryAt} → e ≡ entry_at g 0 i → e ≡ entry.Absent p → q ≡ position_of e
    → AbsentAt g 0 i q
absent_placed h k l =
    let a = absent_at (sym h ∙ k) in record { cell = a.cell; position = l ∙ ap position_of k ∙ a.position }

-- so one more is within the limit
pub has_space : {s : List ℕ} {i p : ℕ} {e : EntryAt} → Vector s i → e ≡ entry.Absent p
    → size s + mark_words e ≤ length s → HasSpace s
has_space {s} v k l =
    let f = vector_few v in
    let m = ap mark_words k in
    record { few = omega (arith, v.matrix.header.col_range.most); space = omega arith }

-- a mark that is taken and was missing: the same cells
taken_cells : (g : Grid) (i p : ℕ) → AbsentAt g 0 i p → Same (taken_marks g i) g
taken_cells g i p a = record {
  rows = refl;
  cols = refl;
  cell = λ r c l m. go r c (ℕ_discrete r 0) (ℕ_discrete c i);
}
  where
    go : (r c : ℕ) → Dec (r ≡ 0) → Dec (c ≡ i) → (taken_marks g i).cell r c ≡ g.cell r c
    go r c (yes d) (yes f) = rw (d, f) (changed_here g 0 i None ∙ sym a.cell)
    go r c (yes d) (no f) = changed_other g 0 i None r c (λ x y. f y)
    go r c (no d) f = changed_other g 0 i None r c (λ x y. d x)

-- so the words stay, but for the revision
pub taken_none : {s : List ℕ} {i p : ℕ} → Vector s i → AbsentAt (grid_of s) 0 i p
    → touched s ≡ updated s 0 i None
taken_none {s} {i} {p} v a =
    let h = matrix_made s v.matrix in
    let c = taken_cells (grid_of s) i p a in
    let k = same_size (taken_marks (grid_of s) i) (grid_of s) c ∙ ap (size_of (rows s)) (valid_entries s h) in
    let v = next_revision (revision s) in
    valid_touched s h
    ∙ sym (ap (λ (l : List ℕ). l ++ drop (grid_size (taken_marks (grid_of s) i)) s) (encode_ext v _ _ c)
    ∙ ap (λ (n : ℕ). encode_revised v (grid_of s) ++ drop n s) k)
