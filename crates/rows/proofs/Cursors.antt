-- An index that is the position of a column and is moved up from column to column. Cited by the loops that go through
-- several rows side by side.
use Rattle.std.proofs.Common.{None}
use Prim.Native.Nat.{ℕ, ◌+◌, ◌≤◌, ◌<◌}
use native.Mathlib.Omega.{arith}
use native.Mathlib.Decide.{dec_lt}
use mathlib.Core.Path.{◌≡◌}
use mathlib.Core.List.{List}
use lib.ListN.{length}
use Rattle.words.specs.Words.{at}
use Rattle.rows.specs.Row.{lookup, position, Rises, Row}
use Rattle.rows.proofs.Search.{not_below_mid, position_found}
use Rattle.rows.proofs.Position.{Stands, stands}
use Rattle.rows.proofs.Found.{lookup_missing}
use Rattle.rows.proofs.Walk.{front, front_at, front_end}

-- a search for column q, step by step from an index k that is not past its position
module _ (cols : List ℕ) (rises : Rises cols) (q k : ℕ) where
  found : Stands q cols (position q cols)
  found = stands q cols rises

  -- the column at k is below q
  pub seek_more : k < length cols → at cols k < q → k + 1 ≤ position q cols
  seek_more l b = go (dec_lt k (position q cols))
    where
      go : Dec (k < position q cols) → k + 1 ≤ position q cols
      go (yes d) = omega arith
      go (no d) = absurd (omega (arith, found.after k (omega arith) l))

  -- it is not
  pub seek_stop : k ≤ position q cols → q ≤ at cols k → k ≡ position q cols
  seek_stop l b = go (dec_lt k (position q cols))
    where
      go : Dec (k < position q cols) → k ≡ position q cols
      go (yes d) = absurd (omega (arith, found.before k d))
      go (no d) = omega arith

  -- there is no column at k
  pub seek_end : k ≤ position q cols → length cols ≤ k → k ≡ position q cols
  seek_end l b = omega (arith, found.within)

-- a later column has no earlier position
pub position_grows : {cols : List ℕ} → Rises cols → (p q : ℕ) → p ≤ q → position p cols ≤ position q cols
position_grows {cols} rises p q l = go (dec_lt (position q cols) (position p cols))
  where
    go : Dec (position q cols < position p cols) → position p cols ≤ position q cols
    go (yes d) =
        let u = stands p cols rises in
        let v = stands q cols rises in
        let w : position q cols < length cols = omega (arith, u.within) in
        absurd (omega (arith, u.before (position q cols) d, v.after (position q cols) (omega arith) w))
    go (no d) = omega arith

-- so an index is not past the position of the column after its own
pub position_after : {cols : List ℕ} → Rises cols → (q : ℕ) {i : ℕ} → i ≡ position q cols → i ≤ position (q + 1) cols
position_after rises q e = omega (arith, position_grows rises q (q + 1) (omega arith))

-- the column at an index is at most n, where n stands for the end
pub front_high : {n : ℕ} {cols vals : List ℕ} → Row n cols vals → (i : ℕ) → front n cols i ≤ n
front_high {n} {cols} w i = go (dec_lt i (length cols))
  where
    go : Dec (i < length cols) → front n cols i ≤ n
    go (yes d) = omega (arith, w.small i d, front_at n cols i d)
    go (no d) = omega (arith, front_end n cols i (omega arith))

-- the index i is the position of column p
module _ {n : ℕ} {cols vals : List ℕ} (w : Row n cols vals) {p i : ℕ} (e : i ≡ position p cols) where
  placed : Stands p cols i
  placed = rw e (stands p cols w.rises)

  -- the column there is no earlier one
  pub front_low : p ≤ n → p ≤ front n cols i
  front_low l = go (dec_lt i (length cols))
    where
      go : Dec (i < length cols) → p ≤ front n cols i
      go (yes d) = omega (arith, placed.after i (omega arith) d, front_at n cols i d)
      go (no d) = omega (arith, front_end n cols i (omega arith))

  -- it is the position of the columns up to the one there as well
  pub position_front : {q : ℕ} → p ≤ q → q ≤ front n cols i → i ≡ position q cols
  position_front {q} l m =
      position_found q cols i placed.within (λ k b. omega (arith, placed.before k b))
      (λ k b h. not_below_mid q cols i w.rises (omega (arith, front_at n cols i (omega arith))) k b h)

  -- and those before that one have no entries
  pub absent_front : {j : ℕ} → p ≤ j → j < front n cols i → lookup cols vals j ≡ None
  absent_front {j} l m =
      lookup_missing cols vals w.even w.rises j i (position_front l (omega arith))
      (λ h q. omega (arith, front_at n cols i h))
