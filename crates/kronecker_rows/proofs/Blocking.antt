-- The loop of `kronecker_row`: what it has written when it stands at entry p of the first row.
use Prim.Native.Nat.{ℕ, suc, ◌+◌, ◌*◌, ◌/◌, ◌%◌, ◌≤◌, ◌<◌}
use native.Mathlib.Nat.{suc-mul, mul-le-mul_right, le-div_iff_mul-le}
use native.Mathlib.Omega.{arith}
use mathlib.Core.Path.{◌≡◌, refl, ◌∙◌}
use mathlib.Core.List.{List}
use lib.Arith.{digits_div, digits_mod}
use lib.ListN.{length}
use Rattle.limits.specs.Limits.{max_cols}
use Rattle.words.specs.Words.{at}
use Rattle.grid.specs.Cell.{Cell}
use Rattle.operators.specs.declared.BinaryOp.{BinaryOp}
use Rattle.operations.specs.CellOperations.{intersect}
use Rattle.operations.proofs.Blocks.{has_places, block_below, blocks_most}
use Rattle.rows.specs.Row.{lookup, Row, Holds}
use Rattle.rows.proofs.Holds.{holds_none, holds_most, holds_skip}
use Rattle.rows.proofs.Walk.{front, front_at, front_end, front_above, lookup_entry, absent_first, absent_next}
use Rattle.kronecker_rows.specs.Blocks.{Block, BlockAdded}

-- the row of the product
abbrev pub row : BinaryOp → ℕ → List ℕ → List ℕ → List ℕ → List ℕ → ℕ → Cell
row op n ac av bc bv j = intersect op (lookup ac av (j / n)) (lookup bc bv (j % n))

-- the blocks of the entries before p are written, e entries, and the buffers are as long as they were
pub record Blocking (op : BinaryOp) (m n : ℕ) (ac av bc bv oc₀ ov₀ oc ov : List ℕ) (p e : ℕ) : Type 0 where
  pub out : Holds (front m ac p * n) (row op n ac av bc bv) e oc ov
  pub long_cols : length oc ≡ length oc₀
  pub long_vals : length ov ≡ length ov₀

module _ {m n : ℕ} {ac av : List ℕ} (w : Row m ac av) where
  pub blocking_start : (op : BinaryOp) (bc bv oc ov : List ℕ) → Blocking op m n ac av bc bv oc ov oc ov 0 0
  blocking_start op bc bv oc ov = record {
    out = holds_skip (holds_none _ oc ov) (front m ac 0 * n) (omega arith)
        (λ j a b. rw (absent_first w (j / n) (block_below (front m ac 0) n j b)));
    long_cols = refl;
    long_vals = refl;
  }

  module _ {op : BinaryOp} {bc bv oc₀ ov₀ oc ov : List ℕ} {p e : ℕ}
      (h : Blocking op m n ac av bc bv oc₀ ov₀ oc ov p e) (l : p < length ac) where
    -- the block of entry p lies within the row, and what is written before it
    pub block_within : at ac p * n + n ≤ m * n
    block_within = omega (arith, suc-mul (at ac p) n, mul-le-mul_right n (w.small p l))

    before : Holds (at ac p * n) (row op n ac av bc bv) e oc ov
    before = rw (front_at m ac p l) at h.out

    pub blocking_room : e ≤ at ac p * n
    blocking_room = holds_most before

    pub block_small : m ≤ max_cols → n ≤ max_cols → at ac p * n + n ≤ max_cols * max_cols
    block_small a b = omega (arith, block_within, blocks_most m n a b)

    -- its cells are the operator's on its value and the second row's
    here : Block op (at av p) (at ac p * n) n bc bv (row op n ac av bc bv)
    here k b = rw (digits_div (at ac p) b, digits_mod (at ac p) b, lookup_entry w p l)

    -- and those up to the next entry's block are absent
    pub blocking_step : {oc' ov' : List ℕ} {e' : ℕ} → length oc' ≡ length oc → length ov' ≡ length ov
        → BlockAdded op (at av p) (at ac p * n) n bc bv oc ov e oc' ov' e'
        → Blocking op m n ac av bc bv oc₀ ov₀ oc' ov' (p + 1) e'
    blocking_step a b g =
        let next = front_above w p (p + 1) (omega arith) l in
        record {
          out = holds_skip (g (row op n ac av bc bv) here before) (front m ac (p + 1) * n)
              (omega (arith, suc-mul (at ac p) n, mul-le-mul_right n next))
              (λ j u v.
              let first : suc (at ac p) ≤ j / n =
              (le-div_iff_mul-le (has_places (front m ac (p + 1)) n j v)).1 (omega (arith, suc-mul (at ac p) n)) in
              rw (absent_next w p (j / n) l first (block_below (front m ac (p + 1)) n j v)));
          long_cols = a ∙ h.long_cols;
          long_vals = b ∙ h.long_vals;
        }

  -- behind the last entry the row is whole
  pub blocking_done : {op : BinaryOp} {bc bv oc₀ ov₀ oc ov : List ℕ} {p e : ℕ}
      → Blocking op m n ac av bc bv oc₀ ov₀ oc ov p e → length ac ≤ p
      → Holds (m * n) (row op n ac av bc bv) e oc ov
  blocking_done {p = p} h l = rw (front_end m ac p l) at h.out
