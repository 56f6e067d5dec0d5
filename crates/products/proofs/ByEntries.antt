-- The loops of `sum_entries` and `sum_rows`, and the row that is collected at the end.
use Rattle.std.proofs.Common.{None, Some}
use Prim.Native.Nat.{ℕ, ◌+◌, ◌≤◌, ◌<◌}
use native.Mathlib.Omega.{arith}
use mathlib.Core.Path.{◌≡◌, refl, sym, ap, subst, ◌∙◌}
use mathlib.Core.List.{List}
use mathlib.Core.Bool.{Bool, true, false, cond}
use lib.ListN.{length, set, length-set}
use Rattle.limits.specs.Limits.{max_cols}
use Rattle.words.specs.Words.{at}
use Rattle.grid.specs.Cell.{Cell}
use Rattle.grid.specs.Entries.{column, value}
use Rattle.grid.proofs.Gather.{gather_skip}
use Rattle.operators.specs.declared.BinaryOp.{BinaryOp}
use Rattle.operators.specs.declared.Monoid.{Monoid}
use Rattle.operators.specs.Operators.{binary_word, monoid_op}
use Rattle.operations.specs.declared.WriteBack.{WriteBack}
use Rattle.operations.specs.CellOperations.{unite, dot}
use Rattle.operations.specs.WriteBacks.{inside}
use Rattle.rows.specs.Row.{lookup, Row, Holds}
use Rattle.rows.proofs.Holds.{holds_same, holds_absent}
use Rattle.rows.proofs.Walk.{front_at, lookup_entry, absent_all, absent_past, row_wider}
use Rattle.matrix.specs.Layout.{rows, cols, row_columns, row_values, cell_of}
use Rattle.matrix.specs.Facts.{Matrix}
use Rattle.matrix.proofs.Facts.{matrix_made}
use Rattle.encoding.proofs.Canonical.{valid_row}
use Rattle.dense_rows.specs.Dense.{marked}
use Rattle.dense_rows.proofs.Sweep.{Swept, swept_start, swept_step, swept_done}
use Rattle.bit_rows.specs.Bits.{bit, mark, map_places, flagged, Tracked, Carries, Marking, Room}
use Rattle.bit_rows.proofs.Marks.{flagged_unmarked, marked_here, marked_other, carries_room}
use Rattle.mask_rows.specs.Masks.{KeptInside}
use Rattle.products.specs.Products.{product_row, added_row, inside_row, AddedAt}
use Rattle.products.proofs.Dot.{dot_none, dot_empty}
use Rattle.products.proofs.Adding.{keeps}
use Rattle.products.proofs.Sums.{Sums, sums_start, sums_step, sums_done}

-- ---- `add_at`: the first product at a column, and a later one

pub added_first : (monoid : Monoid) (x : ℕ) {j : ℕ} {map : List ℕ} (sums : List ℕ) {top' : ℕ} {map' : List ℕ}
    → mark map j ≡ 0 → Marking j map top' map' → AddedAt monoid x j map sums top' map' (set sums j x)
added_first monoid x {j} {map} sums e g =
    record { marking = g; sum = x; adds = rw (flagged_unmarked map sums j e); stored = refl }

pub added_later : (monoid : Monoid) (x : ℕ) {j : ℕ} {map : List ℕ} (sums : List ℕ) {top m s : ℕ} → Tracked top map
    → m ≡ mark map j → (m ≡ 0 → ⊥) → Some s ≡ unite (monoid_op monoid) (marked m (at sums j)) (Some x)
    → AddedAt monoid x j map sums top map (set sums j s)
unfolding bit flagged
added_later monoid x sums {s = s} t e n f = record {
  marking = record { tracked = t; here = omega arith; other = λ k u. refl };
  sum = s;
  adds = f ∙ rw e;
  stored = refl;
}

-- ---- `sum_entries`: the entries before p of a row, each times x, are added

pub record Placing (monoid : Monoid) (op : BinaryOp) (x : ℕ) (columns vals : List ℕ) (old : ℕ → Cell) (sums₀ : List ℕ)
    (top : ℕ) (map sums : List ℕ) (p : ℕ) : Type 0 where
  pub tracked : Tracked top map
  pub long : length sums ≡ length sums₀
  pub swept : Swept max_cols columns old (added_row monoid op x (lookup columns vals) old) (flagged map sums) p

module _ {columns vals : List ℕ} (w : Row max_cols columns vals) {monoid : Monoid} {op : BinaryOp} {x : ℕ}
    {old : ℕ → Cell} {sums₀ : List ℕ} where
  pub placing_start : {top : ℕ} {map : List ℕ} → Tracked top map → ((j : ℕ) → flagged map sums₀ j ≡ old j)
      → Placing monoid op x columns vals old sums₀ top map sums₀ 0
  placing_start t f = record { tracked = t; long = refl; swept = swept_start w (keeps monoid op x _ old) f }

  module _ {top : ℕ} {map sums : List ℕ} {p : ℕ} (h : Placing monoid op x columns vals old sums₀ top map sums p) where
    -- the product of entry p is added at its column
    pub placing_step : {t top' : ℕ} {map' sums' : List ℕ} → p < length columns → at columns p < length sums
        → t ≡ binary_word op x (at vals p) → AddedAt monoid t (at columns p) map sums top' map' sums'
        → Placing monoid op x columns vals old sums₀ top' map' sums' (p + 1)
    placing_step {top' = top'} {map'} l k e g =
        let c = at columns p in
        let before : flagged map sums c ≡ old c = h.swept.rest c (omega (arith, front_at max_cols columns p l)) in
        subst (λ (s : List ℕ). Placing monoid op x columns vals old sums₀ top' map' s (p + 1)) (sym g.stored)
        record {
          tracked = g.marking.tracked;
          long = length-set sums c g.sum ∙ h.long;
          swept = swept_step w (keeps monoid op x _ old) h.swept l
              (marked_here g.marking sums g.sum k ∙ g.adds ∙ rw (lookup_entry w p l, e, ← before))
              (marked_other g.marking sums g.sum);
        }

    pub placing_done : length columns ≤ p → Carries (added_row monoid op x (lookup columns vals) old) top map sums
    placing_done l = record { tracked = h.tracked; cell = swept_done w (keeps monoid op x _ old) h.swept l }

-- ---- `sum_rows`: the rows of the matrix b that the entries before p name are added up

pub record Totalling (monoid : Monoid) (op : BinaryOp) (n : ℕ) (columns vals : List ℕ) (b : ℕ → ℕ → Cell)
    (sums₀ : List ℕ) (top : ℕ) (map sums : List ℕ) (p : ℕ) : Type 0 where
  pub tracked : Tracked top map
  pub long : length sums ≡ length sums₀
  pub totals : Sums monoid op n columns vals b (flagged map sums) p

module _ {n : ℕ} {columns vals : List ℕ} (w : Row n columns vals) {monoid : Monoid} {op : BinaryOp} {b : ℕ → ℕ → Cell}
    {sums₀ : List ℕ} where
  pub totalling_start : {top : ℕ} {map : List ℕ} → Carries (λ j. None) top map sums₀
      → Totalling monoid op n columns vals b sums₀ top map sums₀ 0
  totalling_start s = record { tracked = s.tracked; long = refl; totals = sums_start w s.cell }

  module _ {top : ℕ} {map sums : List ℕ} {p : ℕ} (h : Totalling monoid op n columns vals b sums₀ top map sums p) where
    pub totalling_step : {top' : ℕ} {map' sums' : List ℕ} → p < length columns → length sums' ≡ length sums
        → Carries (added_row monoid op (at vals p) (b (at columns p)) (flagged map sums)) top' map' sums'
        → Totalling monoid op n columns vals b sums₀ top' map' sums' (p + 1)
    totalling_step l e s = record {
      tracked = s.tracked;
      long = e ∙ h.long;
      totals = sums_step w h.totals l s.cell;
    }

    pub totalling_done : length columns ≤ p
        → Carries (λ j. dot monoid op n (lookup columns vals) (λ k. b k j)) top map sums
    totalling_done l = record { tracked = h.tracked; cell = sums_done w h.totals l }

-- row k of a matrix fits a buffer of its columns
pub matrix_row_in : (b : List ℕ) → Matrix b → (k : ℕ) → k < rows b → {m : ℕ} → cols b ≤ m
    → Row m (row_columns b k) (row_values b k)
matrix_row_in b m k l e = row_wider (valid_row b (matrix_made b m) k l) e

-- ---- the row that is collected

-- a row without entries from column n on, once its marked columns are collected
collected_row : {f : ℕ → Cell} {top : ℕ} {map sums : List ℕ} → Carries f top map sums → (n : ℕ) → n ≤ map_places
    → ((j : ℕ) → n ≤ j → f j ≡ None) → {e : ℕ} {oc ov : List ℕ} → Holds map_places (flagged map sums) e oc ov
    → Holds n f e oc ov
collected_row {f} h n l past c =
    let g = holds_same c f (λ j u. h.cell j) in
    let none : (j : ℕ) → n ≤ j → j < map_places → f j ≡ None = λ j u v. past j u in
    record {
      count = g.count ∙ ap length (gather_skip column f n map_places l none);
      columns = g.columns ∙ gather_skip column f n map_places l none;
      values = g.values ∙ gather_skip value f n map_places l none;
    }

-- a column without an entry has none inside the mask
inside_none : (w : WriteBack) (m f : ℕ → Cell) (j : ℕ) → f j ≡ None → inside_row w m f j ≡ None
unfolding inside_row
inside_none w m f j e = go (inside w (m j))
  where
    go : (t : Bool) → cond t (f j) None ≡ None
    go true = e
    go false = refl

-- a row without entries has none inside the mask
pub inside_empty : (w : WriteBack) (m : ℕ → Cell) (monoid : Monoid) (op : BinaryOp) (columns vals b : List ℕ) (n : ℕ)
    (oc ov : List ℕ) → length columns ≡ 0
    → Holds n (inside_row w m (product_row monoid op (lookup columns vals) b)) 0 oc ov
inside_empty w m monoid op columns vals b n oc ov e =
    holds_absent n _ oc ov
    (λ j. inside_none w m (product_row monoid op (lookup columns vals) b) j
    (dot_none monoid op (lookup columns vals) (λ k. cell_of b k j) (rows b) (λ k l. absent_all columns vals e k)))

-- what lies inside the mask
pub carries_inside : {w : WriteBack} {m f : ℕ → Cell} {top : ℕ} {map map' sums : List ℕ} → Carries f top map sums
    → KeptInside w m map map' → Carries (inside_row w m f) top map' sums
unfolding flagged inside_row
carries_inside {w} {m} {f} {top} {map} {map'} {sums} h k = record {
  tracked = k.tracked top h.tracked;
  cell = λ j. ap (λ (b : ℕ). marked b (at sums j)) (k.marks j) ∙ go j (inside w (m j));
}
  where
    go : (j : ℕ) (b : Bool) → marked (cond b (mark map j) 0) (at sums j) ≡ cond b (f j) None
    go j true = h.cell j
    go j false = refl

module _ (monoid : Monoid) (op : BinaryOp) (a : ℕ → Cell) (b : List ℕ) (m : Matrix b) where
  -- the product has no entries past the columns of b
  product_past : (j : ℕ) → cols b ≤ j → product_row monoid op a b j ≡ None
  unfolding cell_of
  product_past j l =
      dot_empty monoid op a (λ k. cell_of b k j) (rows b)
      (λ k u. absent_past (valid_row b (matrix_made b m) k u) j l)

  module _ {top : ℕ} {map sums : List ℕ} (h : Carries (product_row monoid op a b) top map sums) where
    pub product_room : {x y : ℕ} → cols b ≤ x → cols b ≤ y → Room map x y
    product_room u v = carries_room h (cols b) product_past u v

    pub product_collected : {e : ℕ} {oc ov : List ℕ} → Holds map_places (flagged map sums) e oc ov
        → Holds (cols b) (product_row monoid op a b) e oc ov
    product_collected c =
        collected_row h (cols b) (omega (arith, m.header.col_range.most)) product_past c

  -- the same for what lies inside the mask
  module _ (w : WriteBack) (k : ℕ → Cell) where
    inside_past : (j : ℕ) → cols b ≤ j → inside_row w k (product_row monoid op a b) j ≡ None
    inside_past j l = inside_none w k (product_row monoid op a b) j (product_past j l)

    module _ {top : ℕ} {map sums : List ℕ} (h : Carries (inside_row w k (product_row monoid op a b)) top map sums) where
      pub inside_room : {x y : ℕ} → cols b ≤ x → cols b ≤ y → Room map x y
      inside_room u v = carries_room h (cols b) inside_past u v

      pub inside_collected : {e : ℕ} {oc ov : List ℕ} → Holds map_places (flagged map sums) e oc ov
          → Holds (cols b) (inside_row w k (product_row monoid op a b)) e oc ov
      inside_collected c =
          collected_row h (cols b) (omega (arith, m.header.col_range.most)) inside_past c
