-- A turn of a loop over two rows that both have an entry at the indexes: the index whose column is the lower one moves,
-- and both where the columns are equal. Cited by `intersect_rows` and `unite_rows`.
use Rattle.std.proofs.Common.{None, Some}
use Prim.Native.Nat.{ℕ, ◌+◌, ◌≤◌, ◌<◌, min}
use native.Mathlib.Omega.{arith}
use native.Mathlib.Decide.{dec_lt}
use native.Mathlib.Numerals.{add-one}
use mathlib.Core.Bool.{Bool, true, false}
use mathlib.Core.Path.{◌≡◌, sym}
use mathlib.Core.List.{List}
use lib.Dec.{leb, eqb}
use lib.ListN.{length, set, length-set}
use Rattle.std.specs.Int.{from_bool}
use Rattle.std.proofs.lemmas.Bool.{le-leb, lt-leb, eq-eqb, ne_eqb}
use lib.Seq.{take-set-le}
use Rattle.words.specs.Words.{at}
use Rattle.grid.specs.Cell.{Cell}
use Rattle.rows.specs.Row.{position, Rises, Row, Holds}
use Rattle.rows.proofs.Holds.{holds_put, holds_skip}
use Rattle.rows.proofs.Position.{Stands, stands, position_moves, position_stays}
use Rattle.row_pairs.proofs.Pairs.{Paired, paired_room, paired_next}

-- r is 1 where a is at most b, otherwise 0
pub record AtMost (a b r : ℕ) : Type 0 where
  pub holds : a ≤ b → r ≡ 1
  pub fails : b < a → r ≡ 0

-- r is 1 where a is b, otherwise 0
pub record Equal (a b r : ℕ) : Type 0 where
  pub holds : a ≡ b → r ≡ 1
  pub fails : (a ≡ b → ⊥) → r ≡ 0

-- so it is of a test as a number
pub small : (t : Bool) {r : ℕ} → r ≡ from_bool t → r ≤ 1
small true e = omega (arith, e)
small false e = omega (arith, e)

pub at_most : {a b r : ℕ} → r ≡ from_bool (leb a b) → AtMost a b r
at_most {a} {b} e = record {
  holds = λ l. rw (le-leb a b l) at e;
  fails = λ l. rw (lt-leb a b l) at e;
}

pub equal : {a b r : ℕ} → r ≡ from_bool (eqb a b) → Equal a b r
equal {a} {b} e = record {
  holds = λ l. rw (eq-eqb a b l) at e;
  fails = λ l. rw (ne_eqb a b l) at e;
}

-- one of the two indexes moves
pub some_step : {a b s t : ℕ} → AtMost a b s → AtMost b a t → 1 ≤ s + t
some_step {a} {b} {s} {t} f g = go (dec_lt b a)
  where
    go : Dec (b < a) → 1 ≤ s + t
    go (yes l) = omega (arith, g.holds (omega arith))
    go (no l) = omega (arith, f.holds (omega arith))

-- an index that is the position of column q, the lower of its own column and another, moves to that of column q + 1
step_position : {cols : List ℕ} → Rises cols → {q i b s : ℕ} → i ≡ position q cols → i < length cols
    → q ≡ min (at cols i) b → AtMost (at cols i) b s → i + s ≡ position (q + 1) cols
step_position {cols} rises {q} {i} {b} {s} e l m f = go (dec_lt b (at cols i))
  where
    placed : Stands q cols i
    placed = rw e (stands q cols rises)

    go : Dec (b < at cols i) → i + s ≡ position (q + 1) cols
    go (yes d) =
        let u = position_stays q cols i rises placed (λ j s. omega arith) in
        rw (f.fails d, add-one q) (omega (arith, u))
    go (no d) =
        let u = position_moves q cols i rises placed l (omega arith) in
        rw (f.holds (omega arith), add-one q) (omega (arith, u))

-- what stands behind the entries of a row does not count
holds_behind : {n e : ℕ} {f : ℕ → Cell} {cols vals : List ℕ} → Holds n f e cols vals → (x y : ℕ)
    → Holds n f e (set cols e x) (set vals e y)
holds_behind {n} {e} {f} {cols} {vals} h x y = record {
  count = h.count;
  columns = rw (take-set-le e cols e x (omega arith)) h.columns;
  values = rw (take-set-le e vals e y (omega arith)) h.values;
}

-- a turn at column q, the lower of the columns at i and k
module _ {f : ℕ → Cell} {n : ℕ} {ac av bc bv oc₀ ov₀ oc ov : List ℕ} {i k e q : ℕ}
    (w : Row n ac av) (x : Row n bc bv) (h : Paired f n ac bc oc₀ ov₀ oc ov i k e q)
    (l : i < length ac) (r : k < length bc) (m : q ≡ min (at ac i) (at bc k)) where
  pub turn_within : q < n
  turn_within = omega (arith, w.small i l)

  -- the indexes move by s and t
  module _ {s t : ℕ} (y : AtMost (at ac i) (at bc k) s) (z : AtMost (at bc k) (at ac i) t) where
    -- the columns up to q are done, with d entries
    turned : {oc' ov' : List ℕ} {d : ℕ} → Holds (q + 1) f d oc' ov' → length oc' ≡ length oc → length ov' ≡ length ov
        → Paired f n ac bc oc₀ ov₀ oc' ov' (i + s) (k + t) d (q + 1)
    turned row a b =
        paired_next h turn_within row a b (step_position w.rises h.first l m y)
        (step_position x.rises h.second r (omega arith) z)

    -- column q has an entry, which is put behind the others
    pub turn_put : {c v : ℕ} → n ≤ length oc₀ → n ≤ length ov₀ → q ≡ c → f q ≡ Some v
        → Paired f n ac bc oc₀ ov₀ (set oc e c) (set ov e v) (i + s) (k + t) (e + 1) (q + 1)
    turn_put {c} {v} a b g p =
        let room = paired_room h turn_within a b in
        rw (sym g) (turned (holds_put h.row room.0 room.1 p) (length-set oc e q) (length-set ov e v))

    -- it has none
    pub turn_skip : (c v : ℕ) → f q ≡ None
        → Paired f n ac bc oc₀ ov₀ (set oc e c) (set ov e v) (i + s) (k + t) e (q + 1)
    turn_skip c v p =
        let skipped = holds_skip h.row (q + 1) (omega arith) (λ j a b. let o : j ≡ q = omega arith in rw o p) in
        turned (holds_behind skipped c v) (length-set oc e c) (length-set ov e v)
