-- A matrix with words behind it: the same grid. It is what a slot holds when it was resized for one entry more.
use Rattle.std.proofs.Common.{Some}
use Prim.Native.Nat.{ℕ, ◌<◌}
use native.Mathlib.Omega.{arith}
use mathlib.Core.Path.{◌≡◌, sym, ap, ◌∙◌, subst}
use mathlib.Core.Bool.{true, cond}
use mathlib.Core.List.{List, ◌++◌}
use lib.ListN.{length, length-append}
use lib.Dec.{eqb}
use Rattle.limits.specs.Limits.{max_entries}
use Rattle.grid.specs.Cell.{Cell}
use Rattle.grid.specs.Grid.{Grid, Same}
use Rattle.grid.specs.Position.{AbsentAt}
use Rattle.grid.specs.Update.{with_cell}
use Rattle.grid.specs.Revision.{updating, revision_after}
use Rattle.grid.proofs.Position.{same_absent}
use Rattle.matrix.specs.Layout.{revision, rows, cols, entries, size, grid_of}
use Rattle.matrix.specs.Valid.{valid}
use Rattle.matrix.proofs.Facts.{matrix_facts, matrix_made}
use Rattle.encoding.specs.Encode.{encode_revised, written_revised}
use Rattle.encoding.proofs.Canonical.{
  encode_valid,
  encode_same,
  encode_revision,
  encode_ext,
  encode_length,
  valid_within,
  valid_size,
}
use Rattle.slots.specs.Facts.{Held}
use Rattle.store_encoding.proofs.Held.{held_encoded}
use Rattle.edits.specs.Changes.{InMatrix, HasSpace, updated}
use Rattle.store_cells.proofs.Counts.{added_count, whole}

-- one cell changed alike in two grids
same_with : (g h : Grid) (i j : ℕ) (x : Cell) → Same g h → Same (with_cell g i j x) (with_cell h i j x)
same_with g h i j x s = record {
  rows = s.rows;
  cols = s.cols;
  cell = λ r c l m. ap (λ (y : Cell). cond (eqb r i) (cond (eqb c j) x y) y) (s.cell r c l m);
}

module _ {x : List ℕ} {i j : ℕ} (h : Held x) (l : i < rows x) (m : j < cols x) where
  -- x as it stands
  pub held_in : InMatrix x i j
  held_in = record { matrix = h.matrix; row = l; col = m }

  held_valid : valid x ≡ true
  held_valid = matrix_made x h.matrix

  module _ (t : List ℕ) where
    -- and with the words t behind it
    abbrev y : List ℕ
    y = x ++ t

    grown : encode_revised (revision x) (grid_of x) ++ t ≡ y
    grown = ap (λ (z : List ℕ). z ++ t) (held_encoded x h)

    grown_valid : valid y ≡ true
    grown_valid = sym (ap valid grown) ∙ encode_valid (revision x) (grid_of x) t (valid_within x held_valid)

    grown_same : Same (grid_of y) (grid_of x)
    grown_same = subst (λ (z : List ℕ). Same (grid_of z) (grid_of x)) grown (encode_same (revision x) (grid_of x) t)

    grown_revision : revision y ≡ revision x
    grown_revision = sym (ap revision grown) ∙ encode_revision (revision x) (grid_of x) t

    pub grown_in : InMatrix y i j
    grown_in =
        let s = grown_same in
        let r = s.rows in
        let c = s.cols in
        record { matrix = matrix_facts y grown_valid; row = omega arith; col = omega arith }

    -- the place where an entry would be put
    pub grown_absent : {p : ℕ} → AbsentAt (grid_of x) i j p → AbsentAt (grid_of y) i j p
    grown_absent a = same_absent (grid_of y) (grid_of x) i j grown_same l m a

    -- the size of the matrix
    grown_size : size y ≡ length x
    grown_size =
        sym (valid_size 0 y grown_valid) ∙ ap length (encode_ext 0 (grid_of y) (grid_of x) grown_same)
        ∙ valid_size 0 x held_valid ∙ h.whole

    module _ (two : length t ≡ 2) where
      -- there is space for an entry more
      pub grown_space : entries x < max_entries → HasSpace y
      grown_space f =
          let s = grown_size in
          let w = h.whole in
          let r = grown_same.rows in
          let n = length-append x t in
          record { few = omega arith; space = omega arith }

      -- and when it is put in, the writing fills the words
      pub grown_written : (p v : ℕ) → AbsentAt (grid_of x) i j p
          → updated y i j (Some v)
          ≡ encode_revised (revision_after updating (revision x)) (with_cell (grid_of x) i j (Some v))
      grown_written p v e =
          let g : Grid = with_cell (grid_of y) i j (Some v) in
          let g' : Grid = with_cell (grid_of x) i j (Some v) in
          let u = revision_after updating (revision x) in
          let f = same_with (grid_of y) (grid_of x) i j (Some v) grown_same in
          let q : encode_revised u g ≡ encode_revised u g' = encode_ext u g g' f in
          let c = added_count held_in p e v in
          let a = encode_length u g in
          let b = encode_length u g' in
          let d = ap length q in
          let n = length-append x t in
          let w = h.whole in
          ap (λ (r : ℕ). written_revised (revision_after updating r) g y) grown_revision ∙ whole u g y (omega arith) ∙ q
