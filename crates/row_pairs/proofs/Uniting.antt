-- The loop of `unite_rows`: its start, a turn, and its two ends, where the rest of the other row is copied.
use Rattle.std.proofs.Common.{None}
use Prim.Native.Nat.{ℕ, ◌+◌, ◌≤◌, ◌<◌, min}
use native.Mathlib.Omega.{arith}
use mathlib.Core.Path.{◌≡◌, refl}
use mathlib.Core.List.{List}
use lib.ListN.{length, set}
use Rattle.words.specs.Words.{at}
use Rattle.grid.specs.Cell.{Cell}
use Rattle.operators.specs.declared.BinaryOp.{BinaryOp}
use Rattle.operations.specs.CellOperations.{unite}
use Rattle.rows.specs.Row.{lookup, Row, Holds}
use Rattle.rows.proofs.Walk.{front, front_at, front_end}
use Rattle.rows.proofs.Cursors.{absent_front}
use Rattle.row_pairs.specs.Steps.{united_value, Rest, Copied}
use Rattle.row_pairs.proofs.Pairs.{Paired, paired_start, paired_room, paired_on}
use Rattle.row_pairs.proofs.Turns.{AtMost, turn_within, turn_put}
use Rattle.row_pairs.proofs.Cells.{unite_none, unite_lower}
use Rattle.row_pairs.proofs.Rest.{rest_room, rest_done}

abbrev union : BinaryOp → List ℕ → List ℕ → List ℕ → List ℕ → ℕ → Cell
union op ac av bc bv j = unite op (lookup ac av j) (lookup bc bv j)

-- the walk stands at indexes i and k, and so at the lower of the columns there
abbrev pub Uniting : BinaryOp → ℕ → List ℕ → List ℕ → List ℕ → List ℕ → List ℕ → List ℕ → List ℕ → List ℕ
    → ℕ → ℕ → ℕ → Type 0
Uniting op n ac av bc bv oc₀ ov₀ oc ov i k e =
    Paired (union op ac av bc bv) n ac bc oc₀ ov₀ oc ov i k e (min (front n ac i) (front n bc k))

module _ (op : BinaryOp) {n : ℕ} {ac av bc bv : List ℕ} (w : Row n ac av) (x : Row n bc bv) where
  quiet : (j : ℕ) → lookup ac av j ≡ None → lookup bc bv j ≡ None → union op ac av bc bv j ≡ None
  quiet j a b = rw (a, b)

  pub uniting_start : (oc ov : List ℕ) → Uniting op n ac av bc bv oc ov oc ov 0 0 0
  uniting_start oc ov = paired_on w x quiet (paired_start (union op ac av bc bv) n ac bc oc ov) refl

  module _ {oc₀ ov₀ oc ov : List ℕ} {i k e : ℕ} (h : Uniting op n ac av bc bv oc₀ ov₀ oc ov i k e)
      (a : n ≤ length oc₀) (b : n ≤ length ov₀) where
    -- both rows have an entry at the indexes
    module _ (l : i < length ac) (r : k < length bc) where
      standing : min (front n ac i) (front n bc k) ≡ min (at ac i) (at bc k)
      standing = rw (front_at n ac i l, front_at n bc k r)

      pub uniting_room : (e < length oc) × (e < length ov)
      uniting_room = paired_room h (turn_within w x h l r standing) a b

      -- the lower column is written
      pub uniting_turn : {c v t u : ℕ} → c ≡ min (at ac i) (at bc k)
          → v ≡ united_value op (at ac i) (at bc k) (at av i) (at bv k)
          → AtMost (at ac i) (at bc k) t → AtMost (at bc k) (at ac i) u
          → Uniting op n ac av bc bv oc₀ ov₀ (set oc e c) (set ov e v) (i + t) (k + u) (e + 1)
      uniting_turn s p f g =
          let cell = unite_lower op w x h.first h.second l r standing in
          rw p (paired_on w x quiet (turn_put w x h l r standing f g a b (omega (arith, standing)) cell) refl)

    -- the second row has ended: the rest of the first is the rest of the union
    module _ (l : length bc ≤ k) where
      first_alone : (j : ℕ) → min (front n ac i) (front n bc k) ≤ j → j < n → union op ac av bc bv j ≡ lookup ac av j
      first_alone j u v =
          rw (absent_front x h.second u (omega (arith, front_end n bc k l))) (unite_none op (lookup ac av j))

      pub first_room : Rest ac av i oc ov e
      first_room =
          rest_room w h.row h.bound h.first first_alone (omega (arith, h.columns_kept))
          (omega (arith, h.values_kept))

      pub first_done : {oc' ov' : List ℕ} {r : ℕ} → Copied ac av i oc ov e oc' ov' r
          → Holds n (union op ac av bc bv) r oc' ov'
      first_done =
          rest_done w h.row h.bound h.first first_alone (omega (arith, h.columns_kept))
          (omega (arith, h.values_kept))

    -- the first row has ended: the rest of the second
    module _ (l : length ac ≤ i) where
      second_alone : (j : ℕ) → min (front n ac i) (front n bc k) ≤ j → j < n → union op ac av bc bv j ≡ lookup bc bv j
      second_alone j u v = rw (absent_front w h.first u (omega (arith, front_end n ac i l)))

      pub second_room : Rest bc bv k oc ov e
      second_room =
          rest_room x h.row h.bound h.second second_alone (omega (arith, h.columns_kept))
          (omega (arith, h.values_kept))

      pub second_done : {oc' ov' : List ℕ} {r : ℕ} → Copied bc bv k oc ov e oc' ov' r
          → Holds n (union op ac av bc bv) r oc' ov'
      second_done =
          rest_done x h.row h.bound h.second second_alone (omega (arith, h.columns_kept))
          (omega (arith, h.values_kept))
