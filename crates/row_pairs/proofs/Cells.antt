-- The cells of an intersection and of a union at the lower of two columns, and where one of the two rows has ended.
use Rattle.std.proofs.Common.{None, Some}
use Prim.Native.Nat.{ℕ, ◌≤◌, ◌<◌, min}
use native.Mathlib.Omega.{arith}
use native.Mathlib.Decide.{dec_lt}
use mathlib.Core.Path.{◌≡◌, refl}
use mathlib.Core.List.{List}
use lib.ListN.{length}
use borrow.Author.Tests.{lt-ltb, le-ltb}
use Rattle.words.specs.Words.{at}
use Rattle.grid.specs.Cell.{Cell}
use Rattle.operators.specs.declared.BinaryOp.{BinaryOp}
use Rattle.operators.specs.Operators.{binary_word}
use Rattle.operations.specs.CellOperations.{intersect, unite}
use Rattle.rows.specs.Row.{lookup, position, Row}
use Rattle.rows.proofs.Walk.{front_at, lookup_entry}
use Rattle.rows.proofs.Cursors.{absent_front}
use Rattle.row_pairs.specs.Steps.{united_value}

-- an intersection with nothing
pub intersect_none : (op : BinaryOp) (c : Cell) → intersect op c None ≡ None
intersect_none op None = refl
intersect_none op (Some x) = refl

-- a union with nothing
pub unite_none : (op : BinaryOp) (c : Cell) → unite op c None ≡ c
unite_none op None = refl
unite_none op (Some x) = refl

-- two rows that stand at column q, with entries at i and k
module _ (op : BinaryOp) {n : ℕ} {ac av bc bv : List ℕ} {i k q : ℕ} (w : Row n ac av) (x : Row n bc bv)
    (u : i ≡ position q ac) (v : k ≡ position q bc) (l : i < length ac) (r : k < length bc)
    (m : q ≡ min (at ac i) (at bc k)) where
  -- the first has an entry there, or has none
  first_here : at ac i ≤ at bc k → lookup ac av q ≡ Some (at av i)
  first_here a = let z : q ≡ at ac i = omega arith in rw z (lookup_entry w i l)

  first_later : at bc k < at ac i → lookup ac av q ≡ None
  first_later a = absent_front w u (omega arith) (omega (arith, front_at n ac i l))

  -- and so the second
  second_here : at bc k ≤ at ac i → lookup bc bv q ≡ Some (at bv k)
  second_here a = let z : q ≡ at bc k = omega arith in rw z (lookup_entry x k r)

  second_later : at ac i < at bc k → lookup bc bv q ≡ None
  second_later a = absent_front x v (omega arith) (omega (arith, front_at n bc k r))

  pub intersect_same : at ac i ≡ at bc k
      → intersect op (lookup ac av q) (lookup bc bv q) ≡ Some (binary_word op (at av i) (at bv k))
  intersect_same e = rw (first_here (omega arith), second_here (omega arith))

  pub intersect_apart : (at ac i ≡ at bc k → ⊥) → intersect op (lookup ac av q) (lookup bc bv q) ≡ None
  intersect_apart e = go (dec_lt (at ac i) (at bc k))
    where
      go : Dec (at ac i < at bc k) → intersect op (lookup ac av q) (lookup bc bv q) ≡ None
      go (yes d) = rw (second_later d) (intersect_none op (lookup ac av q))
      go (no d) = rw (first_later (omega arith))

  pub unite_lower : unite op (lookup ac av q) (lookup bc bv q)
      ≡ Some (united_value op (at ac i) (at bc k) (at av i) (at bv k))
  unite_lower = go (dec_lt (at ac i) (at bc k)) (dec_lt (at bc k) (at ac i))
    where
      go : Dec (at ac i < at bc k) → Dec (at bc k < at ac i) → unite op (lookup ac av q) (lookup bc bv q)
          ≡ Some (united_value op (at ac i) (at bc k) (at av i) (at bv k))
      go (yes d) e = rw (lt-ltb _ _ d, first_here (omega arith), second_later d)
      go (no d) (yes e) =
          rw (le-ltb (at ac i) (at bc k) (omega arith), lt-ltb _ _ e, first_later e, second_here (omega arith))
      go (no d) (no e) =
          rw (
            le-ltb (at ac i) (at bc k) (omega arith),
            le-ltb (at bc k) (at ac i) (omega arith),
            first_here (omega arith),
            second_here (omega arith),
          )
