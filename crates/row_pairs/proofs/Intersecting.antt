-- The loop of `intersect_rows`: its start, a turn, and its two ends.
use Rattle.std.proofs.Common.{None}
use Prim.Native.Nat.{ℕ, ◌+◌, ◌≤◌, ◌<◌, min}
use native.Mathlib.Omega.{arith}
use native.Mathlib.Decide.{ℕ_discrete}
use native.Mathlib.Nat.{add-zero}
use mathlib.Core.Path.{◌≡◌, refl}
use mathlib.Core.List.{List}
use lib.ListN.{length, set}
use Rattle.words.specs.Words.{at}
use Rattle.grid.specs.Cell.{Cell}
use Rattle.operators.specs.declared.BinaryOp.{BinaryOp}
use Rattle.operators.specs.Operators.{binary_word}
use Rattle.operations.specs.CellOperations.{intersect}
use Rattle.rows.specs.Row.{lookup, Row, Holds}
use Rattle.rows.proofs.Holds.{holds_skip}
use Rattle.rows.proofs.Walk.{front, front_at, front_end}
use Rattle.rows.proofs.Cursors.{absent_front}
use Rattle.row_pairs.proofs.Pairs.{Paired, paired_start, paired_room, paired_on}
use Rattle.row_pairs.proofs.Turns.{AtMost, Equal, turn_within, turn_put, turn_skip}
use Rattle.row_pairs.proofs.Cells.{intersect_none, intersect_same, intersect_apart}

abbrev intersection : BinaryOp → List ℕ → List ℕ → List ℕ → List ℕ → ℕ → Cell
intersection op ac av bc bv j = intersect op (lookup ac av j) (lookup bc bv j)

-- the walk stands at indexes i and k, and so at the lower of the columns there
abbrev pub Intersecting : BinaryOp → ℕ → List ℕ → List ℕ → List ℕ → List ℕ → List ℕ → List ℕ → List ℕ → List ℕ
    → ℕ → ℕ → ℕ → Type 0
Intersecting op n ac av bc bv oc₀ ov₀ oc ov i k e =
    Paired (intersection op ac av bc bv) n ac bc oc₀ ov₀ oc ov i k e (min (front n ac i) (front n bc k))

module _ (op : BinaryOp) {n : ℕ} {ac av bc bv : List ℕ} (w : Row n ac av) (x : Row n bc bv) where
  quiet : (j : ℕ) → lookup ac av j ≡ None → lookup bc bv j ≡ None → intersection op ac av bc bv j ≡ None
  quiet j a b = rw a

  pub intersecting_start : (oc ov : List ℕ) → Intersecting op n ac av bc bv oc ov oc ov 0 0 0
  intersecting_start oc ov = paired_on w x quiet (paired_start (intersection op ac av bc bv) n ac bc oc ov) refl

  module _ {oc₀ ov₀ oc ov : List ℕ} {i k e : ℕ} (h : Intersecting op n ac av bc bv oc₀ ov₀ oc ov i k e) where
    -- both rows have an entry at the indexes
    module _ (l : i < length ac) (r : k < length bc) (a : n ≤ length oc₀) (b : n ≤ length ov₀) where
      standing : min (front n ac i) (front n bc k) ≡ min (at ac i) (at bc k)
      standing = rw (front_at n ac i l, front_at n bc k r)

      pub intersecting_room : (e < length oc) × (e < length ov)
      intersecting_room = paired_room h (turn_within w x h l r standing) a b

      -- it is written, and counts where the columns are equal
      pub intersecting_turn : {v s t u : ℕ} → v ≡ binary_word op (at av i) (at bv k) → Equal (at ac i) (at bc k) s
          → AtMost (at ac i) (at bc k) t → AtMost (at bc k) (at ac i) u
          → Intersecting op n ac av bc bv oc₀ ov₀ (set oc e (at ac i)) (set ov e v) (i + t) (k + u) (e + s)
      intersecting_turn {v} {s} {t} {u} p y f g = go (ℕ_discrete (at ac i) (at bc k))
        where
          Result : Type 0
          Result = Intersecting op n ac av bc bv oc₀ ov₀ (set oc e (at ac i)) (set ov e v) (i + t) (k + u) (e + s)

          go : Dec (at ac i ≡ at bc k) → Result
          go (yes d) =
              let cell = intersect_same op w x h.first h.second l r standing d in
              rw (y.holds d, p)
              (paired_on w x quiet (turn_put w x h l r standing f g a b (omega (arith, standing)) cell) refl)
          go (no d) =
              let cell = intersect_apart op w x h.first h.second l r standing d in
              rw (y.fails d, add-zero)
              (paired_on w x quiet (turn_skip w x h l r standing f g (at ac i) v cell) refl)

    -- the first row has ended, or the second
    pub intersecting_end_first : length ac ≤ i → Holds n (intersection op ac av bc bv) e oc ov
    intersecting_end_first l =
        holds_skip h.row n h.bound
        (λ j a b. rw (absent_front w h.first a (omega (arith, front_end n ac i l))))

    pub intersecting_end_second : length bc ≤ k → Holds n (intersection op ac av bc bv) e oc ov
    intersecting_end_second l =
        holds_skip h.row n h.bound
        (λ j a b. rw (absent_front x h.second a (omega (arith, front_end n bc k l)))
        (intersect_none op (lookup ac av j)))
