-- A row of assign: where its place in the list of rows stands, and which cells it has by that.
use Prim.Native.Nat.{ℕ, ◌+◌, ◌-◌, ◌<◌}
use native.Mathlib.Omega.{arith}
use mathlib.Core.Path.{◌≡◌, sym, ap, subst}
use mathlib.Core.List.{List}
use lib.ListN.{length, drop, length-drop}
use lib.Seq.{get_or-drop}
use Rattle.limits.specs.Limits.{max_cols}
use Rattle.words.specs.Words.{at}
use Rattle.grid.specs.Cell.{Cell}
use Rattle.rows.specs.Row.{Row, lookup, Holds}
use Rattle.rows.proofs.Holds.{holds_same}
use Rattle.matrix.specs.Layout.{rows, row_columns, row_values, cell_of}
use Rattle.operations.specs.Accumulator.{Accumulator}
use Rattle.operations.specs.CellOperations.{listed_cell, assigned_cell, unlisted_cell}
use Rattle.operations.proofs.Listed.{listed_none, listed_at}
use Rattle.result_rows.specs.RowInputs.{AssignInputs}
use Rattle.result_rows.proofs.Inputs.{matrix_row}

module _ {a b c is js : List ℕ} {i : ℕ} (h : AssignInputs a b c is js i) where
  -- the place of row i in the list of rows, counted from 1
  place_is : at (drop max_cols b) i ≡ at b (max_cols + i)
  place_is = get_or-drop max_cols b i 0

  pub place_within : max_cols + i < length b
  place_within =
      omega (arith, h.row, h.output.header.row_range.most, h.rows_listed.inverse.sized, length-drop max_cols b)

  -- row i is not named
  unnamed : at b (max_cols + i) ≡ 0 → (k : ℕ) → k < length is → at is k ≡ i → ⊥
  unnamed z k l e = omega (arith, place_is, h.rows_listed.inverse.named k l, ap (at (drop max_cols b)) e)

  -- or it is, by an index that is a row of A
  pub record Named : Type 0 where
    pub below : at b (max_cols + i) - 1 < length is
    pub first : at b (max_cols + i) - 1 < rows a
    pub index : at is (at b (max_cols + i) - 1) ≡ i

  pub named : (at b (max_cols + i) ≡ 0 → ⊥) → Named
  named n =
      let o = h.rows_listed.inverse.only i (at b (max_cols + i) - 1) (omega (arith, place_is)) in
      record { below = o.0; first = omega (arith, o.0, h.same_rows); index = o.1 }

  -- A's row has a column for each index of the list of columns
  pub first_row : (k : ℕ) → k < rows a → Row (length js) (row_columns a k) (row_values a k)
  first_row k l = subst (λ (n : ℕ). Row n (row_columns a k) (row_values a k)) h.same_cols (matrix_row a h.first k l)

  module _ (accumulator : Accumulator) where
    abbrev row : ℕ → Cell
    row j = assigned_cell is js (cell_of a) (unlisted_cell accumulator (cell_of c i j)) i j

    -- the row that is not listed
    pub unlisted_holds : at b (max_cols + i) ≡ 0 → {n e : ℕ} {oc ov : List ℕ}
        → Holds n (λ j. unlisted_cell accumulator (lookup (row_columns c i) (row_values c i) j)) e oc ov
        → Holds n row e oc ov
    unfolding cell_of
    unlisted_holds z q =
        holds_same q row (λ j l. sym (listed_none (length is) is i
        (λ k. listed_cell (length js) js j (cell_of a k) (unlisted_cell accumulator (cell_of c i j)))
        (unlisted_cell accumulator (cell_of c i j)) (unnamed z)))

    -- and one that is
    pub listed_holds : (m : Named) {n e : ℕ} {oc ov : List ℕ}
        → Holds n (λ j. listed_cell (length js) js j
        (lookup (row_columns a (at b (max_cols + i) - 1)) (row_values a (at b (max_cols + i) - 1)))
        (unlisted_cell accumulator (lookup (row_columns c i) (row_values c i) j))) e oc ov → Holds n row e oc ov
    unfolding cell_of
    listed_holds m q =
        let k = at b (max_cols + i) - 1 in
        let v = h.rows_listed.inverse in
        holds_same q row (λ j l. sym (listed_at (length is) is i k
        (λ r. listed_cell (length js) js j (cell_of a r) (unlisted_cell accumulator (cell_of c i j)))
        (unlisted_cell accumulator (cell_of c i j)) m.below m.index
        (λ r g e. omega (
          arith,
          v.named r g,
          ap (at (drop max_cols b)) e,
          v.named k m.below,
          ap (at (drop max_cols b)) m.index,
        ))))
