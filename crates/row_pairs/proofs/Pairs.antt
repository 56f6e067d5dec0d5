-- A walk over two rows side by side, column by column: what holds before column q, and how it is taken on to the next
-- column with an entry. Cited by the loops that write one row of two.
use Rattle.std.proofs.Common.{None}
use Prim.Native.Nat.{ℕ, ◌+◌, ◌≤◌, ◌<◌, min}
use native.Mathlib.Omega.{arith}
use mathlib.Core.Path.{◌≡◌, refl, ◌∙◌}
use mathlib.Core.List.{List}
use lib.ListN.{length, get_or}
use Rattle.grid.specs.Cell.{Cell}
use Rattle.rows.specs.Row.{lookup, position, Row, Holds}
use Rattle.rows.proofs.Position.{position_zero}
use Rattle.rows.proofs.Holds.{holds_none, holds_most, holds_skip}
use Rattle.rows.proofs.Cursors.{front_low, front_high, position_front, absent_front}

-- The columns before q are done: f is the output's row, and i and k are the indexes into the columns of the two rows.
pub record Paired (f : ℕ → Cell) (n : ℕ) (ac bc oc₀ ov₀ oc ov : List ℕ) (i k e q : ℕ) : Type 0 where
  pub bound : q ≤ n
  pub first : i ≡ position q ac
  pub second : k ≡ position q bc
  pub row : Holds q f e oc ov
  pub columns_kept : length oc ≡ length oc₀
  pub values_kept : length ov ≡ length ov₀

-- before column 0
pub paired_start : (f : ℕ → Cell) (n : ℕ) (ac bc oc ov : List ℕ) → Paired f n ac bc oc ov oc ov 0 0 0 0
paired_start f n ac bc oc ov = record {
  bound = omega arith;
  first = position_zero ac;
  second = position_zero bc;
  row = holds_none f oc ov;
  columns_kept = refl;
  values_kept = refl;
}

module _ {f : ℕ → Cell} {n : ℕ} {ac bc oc₀ ov₀ oc ov : List ℕ} {i k e q : ℕ}
    (h : Paired f n ac bc oc₀ ov₀ oc ov i k e q) where
  -- there is room for an entry
  pub paired_room : q < n → n ≤ length oc₀ → n ≤ length ov₀ → (e < length oc) × (e < length ov)
  paired_room l a b =
      let u = holds_most h.row in (omega (arith, h.columns_kept), omega (arith, h.values_kept))

  -- column q is done
  pub paired_next : {oc' ov' : List ℕ} {i' k' r : ℕ} → q < n → Holds (q + 1) f r oc' ov'
      → length oc' ≡ length oc → length ov' ≡ length ov → i' ≡ position (q + 1) ac → k' ≡ position (q + 1) bc
      → Paired f n ac bc oc₀ ov₀ oc' ov' i' k' r (q + 1)
  paired_next l row u v y z = record {
    bound = omega arith;
    first = y;
    second = z;
    row = row;
    columns_kept = u ∙ h.columns_kept;
    values_kept = v ∙ h.values_kept;
  }

  -- all columns are done
  pub paired_done : n ≤ q → Holds n f e oc ov
  paired_done l = let z : n ≡ q = omega (arith, h.bound) in rw z h.row

-- on to the next column q where one of the two rows has an entry
module _ {f : ℕ → Cell} {n : ℕ} {ac av bc bv oc₀ ov₀ oc ov : List ℕ} {i k e p q : ℕ}
    (w : Row n ac av) (x : Row n bc bv)
    (quiet : (j : ℕ) → lookup ac av j ≡ None → lookup bc bv j ≡ None → f j ≡ None)
    (h : Paired f n ac bc oc₀ ov₀ oc ov i k e p) (next : q ≡ min (get_or ac i n) (get_or bc k n)) where
  -- that is no earlier column
  pub paired_up : p ≤ q
  paired_up = omega (arith, front_low w h.first h.bound, front_low x h.second h.bound)

  -- the columns up to it have no entries
  pub paired_on : Paired f n ac bc oc₀ ov₀ oc ov i k e q
  paired_on = record {
    bound = omega (arith, front_high w i);
    first = position_front w h.first paired_up (omega arith);
    second = position_front x h.second paired_up (omega arith);
    row = holds_skip h.row q paired_up
        (λ j a b. quiet j (absent_front w h.first a (omega arith)) (absent_front x h.second a (omega arith)));
    columns_kept = h.columns_kept;
    values_kept = h.values_kept;
  }
