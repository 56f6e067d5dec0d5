-- Laws of `dot`, the sum of the products at one position: over places without entries, and over one more.
use Rattle.std.proofs.Common.{None, Some}
use Prim.Native.Nat.{ℕ, zero, suc, ◌+◌, ◌-◌, ◌≤◌, ◌<◌}
use native.Mathlib.Omega.{arith}
use native.Mathlib.Nat.{add-zero, add-suc}
use native.Mathlib.Numerals.{add-one}
use mathlib.Core.Path.{◌≡◌, refl}
use Rattle.grid.specs.Cell.{Cell}
use Rattle.operators.specs.declared.BinaryOp.{BinaryOp}
use Rattle.operators.specs.declared.Monoid.{Monoid}
use Rattle.operators.specs.Operators.{monoid_op}
use Rattle.operations.specs.CellOperations.{intersect, unite, dot}

-- no product leaves the sum as it is
pub unite_absent : (op : BinaryOp) (c : Cell) → unite op c None ≡ c
unite_absent op None = refl
unite_absent op (Some x) = refl

intersect_absent : (op : BinaryOp) (c : Cell) → intersect op c None ≡ None
intersect_absent op None = refl
intersect_absent op (Some x) = refl

module _ (monoid : Monoid) (op : BinaryOp) (row col : ℕ → Cell) where
  -- one more place
  pub dot_next : (k : ℕ)
      → dot monoid op (k + 1) row col ≡ unite (monoid_op monoid) (dot monoid op k row col)
      (intersect op (row k) (col k))
  unfolding dot
  dot_next k = rw add-one

  -- a gap of d places without entries
  dot_gap : (p d : ℕ) → ((k : ℕ) → p ≤ k → k < p + d → row k ≡ None)
      → dot monoid op (p + d) row col ≡ dot monoid op p row col
  unfolding dot
  dot_gap p zero h = rw add-zero
  dot_gap p (suc d) h =
      rw (add-suc, h (p + d) (omega arith) (omega arith), unite_absent) (dot_gap p d (λ k u w. h k u (omega arith)))

  -- no entries from place p up to q
  pub dot_skip : (p q : ℕ) → p ≤ q → ((k : ℕ) → p ≤ k → k < q → row k ≡ None)
      → dot monoid op q row col ≡ dot monoid op p row col
  dot_skip p q l h =
      let e : q ≡ p + (q - p) = omega arith in rw e (dot_gap p (q - p) (λ k u w. h k u (omega arith)))

  -- "No such k: no entry": up to place n there are no entries
  pub dot_none : (n : ℕ) → ((k : ℕ) → k < n → row k ≡ None) → dot monoid op n row col ≡ None
  unfolding dot
  dot_none n h = dot_skip 0 n (omega arith) (λ k u w. h k w)

  -- the same where the column has none
  pub dot_empty : (n : ℕ) → ((k : ℕ) → k < n → col k ≡ None) → dot monoid op n row col ≡ None
  unfolding dot
  dot_empty zero h = refl
  dot_empty (suc n) h =
      rw (h n (omega arith), intersect_absent op (row n), unite_absent) (dot_empty n (λ k l. h k (omega arith)))
