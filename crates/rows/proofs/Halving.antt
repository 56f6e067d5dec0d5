-- The looks of a search that halves its range: what each turn of the loop does to their number, and how many there can be.
use Prim.Native.Nat.{ℕ, zero, suc, ◌+◌, ◌-◌, ◌^◌, ◌≤◌, ◌<◌}
use native.Mathlib.Omega.{arith}
use native.Mathlib.Decide.{dec_lt}
use native.Mathlib.Nat.{zero-add}
use mathlib.Core.Path.{◌≡◌, refl}
use mathlib.Core.List.{List}
use lib.ListN.{length}
use borrow.Author.Tests.{lt-ltb, le-ltb}
use Rattle.words.specs.Words.{at}
use Rattle.rows.specs.Row.{position}
use Rattle.rows.specs.Looks.{middle, halving_looks, position_looks, look_there, looks_for, most_looks}
use Rattle.rows.proofs.Position.{position_zero}

-- one turn, by the column in the middle
module _ (turns j : ℕ) (cols : List ℕ) (low high : ℕ) where
  turn_none : high ≤ low → halving_looks turns j cols low high ≡ 0
  unfolding halving_looks
  turn_none l = go turns
    where
      go : (t : ℕ) → halving_looks t j cols low high ≡ 0
      go zero = refl
      go (suc t) = rw (le-ltb low high l)

  turn_right : low < high → at cols (middle low high) < j
      → halving_looks (suc turns) j cols low high ≡ 1 + halving_looks turns j cols (middle low high + 1) high
  unfolding halving_looks
  turn_right l h = rw (lt-ltb low high l, lt-ltb _ _ h)

  turn_left : low < high → j ≤ at cols (middle low high)
      → halving_looks (suc turns) j cols low high ≡ 1 + halving_looks turns j cols low (middle low high)
  unfolding halving_looks
  turn_left l h = rw (lt-ltb low high l, le-ltb _ _ h)

-- after `looks` looks the range from `low` up to `high` is left: the looks to come in it complete the number
pub record Left (j : ℕ) (cols : List ℕ) (looks low high : ℕ) : Type 0 where
  pub few : looks + (high - low) ≤ length cols
  pub rest : looks + halving_looks (length cols - looks) j cols low high ≡ position_looks j cols

-- before the first look
pub left_start : (j : ℕ) (cols : List ℕ) → Left j cols 0 0 (length cols)
left_start j cols =
    let e : length cols - 0 ≡ length cols = omega arith in record { few = omega arith; rest = rw e (zero-add _) }

module _ {j : ℕ} {cols : List ℕ} {looks low high : ℕ} (w : Left j cols looks low high) where
  -- a look in the middle, and on to the right of it
  pub left_right : low < high → at cols (middle low high) < j → Left j cols (looks + 1) (middle low high + 1) high
  left_right l h =
      let f = w.few in
      let e : length cols - looks ≡ suc (length cols - (looks + 1)) = omega arith in
      record {
        few = omega arith;
        rest = omega (arith, rw (e, turn_right (length cols - (looks + 1)) j cols low high l h) at w.rest);
      }

  -- or to the left of it
  pub left_left : low < high → j ≤ at cols (middle low high) → Left j cols (looks + 1) low (middle low high)
  left_left l h =
      let f = w.few in
      let e : length cols - looks ≡ suc (length cols - (looks + 1)) = omega arith in
      record {
        few = omega arith;
        rest = omega (arith, rw (e, turn_left (length cols - (looks + 1)) j cols low high l h) at w.rest);
      }

  -- nothing is left
  pub left_end : high ≤ low → looks ≡ position_looks j cols
  left_end l = omega (arith, w.rest, turn_none (length cols - looks) j cols low high l)

-- the looks for the position, and the one there
pub looks_all : (j : ℕ) (cols : List ℕ) {p looks all : ℕ} → p ≡ position j cols → looks ≡ position_looks j cols
    → all ≡ looks + look_there p (length cols) → all ≡ looks_for j cols
unfolding looks_for
looks_all j cols e f g = rw (← e, ← f) g

-- a range below 2 ^ b takes at most b looks
within : (turns j : ℕ) (cols : List ℕ) (low high b : ℕ) → high - low < 2 ^ b → halving_looks turns j cols low high ≤ b
unfolding halving_looks
within zero j cols low high b h = omega arith
within (suc turns) j cols low high zero h = omega (arith, turn_none (suc turns) j cols low high (omega arith))
within (suc turns) j cols low high (suc b) h =
    go (dec_lt low high) (dec_lt (at cols (middle low high)) j) (λ l. within turns j cols (middle low high + 1) high b l)
    (λ l. within turns j cols low (middle low high) b l)
  where
    go : Dec (low < high) → Dec (at cols (middle low high) < j)
        → (high - (middle low high + 1) < 2 ^ b → halving_looks turns j cols (middle low high + 1) high ≤ b)
        → (middle low high - low < 2 ^ b → halving_looks turns j cols low (middle low high) ≤ b)
        → halving_looks (suc turns) j cols low high ≤ suc b
    go (yes l) (yes m) right left =
        let u = right (omega arith) in omega (arith, turn_right turns j cols low high l m)
    go (yes l) (no m) right left =
        let u = left (omega arith) in omega (arith, turn_left turns j cols low high l (omega arith))
    go (no l) d right left = omega (arith, turn_none (suc turns) j cols low high (omega arith))

below_power : (n : ℕ) → n < 2 ^ n
below_power zero = omega arith
below_power (suc n) = let u = below_power n in omega arith

-- no more looks than columns
pub looks_few : (j : ℕ) (cols : List ℕ) → position_looks j cols ≤ length cols
looks_few j cols =
    let u = below_power (length cols) in within (length cols) j cols 0 (length cols) (length cols) (omega arith)

-- fewer than 2 ^ b columns take at most b looks, and one more
looks_within : (j : ℕ) (cols : List ℕ) (b : ℕ) → length cols < 2 ^ b → looks_for j cols ≤ b + 1
unfolding looks_for
looks_within j cols b l =
    let u = within (length cols) j cols 0 (length cols) b (omega arith) in
    go (dec_lt (position j cols) (length cols)) u
  where
    go : Dec (position j cols < length cols) → position_looks j cols ≤ b
        → position_looks j cols + look_there (position j cols) (length cols) ≤ b + 1
    go (yes d) u = rw (lt-ltb _ _ d) (omega arith)
    go (no d) u = rw (le-ltb (position j cols) (length cols) (omega arith)) (omega arith)

-- fewer than 2 ^ 10 columns: 512 are, and the 1,000 of A6 too
pub eleven : (j : ℕ) (cols : List ℕ) → length cols < 2 ^ 10 → looks_for j cols ≤ most_looks
eleven j cols l = looks_within j cols 10 l

-- column 0 is in the left half of every range: from 2 ^ b columns on it takes more than b looks
leftmost : (turns : ℕ) (cols : List ℕ) (low high b : ℕ) → high - low ≤ turns → 2 ^ b ≤ high - low
    → b < halving_looks turns 0 cols low high
leftmost zero cols low high b t h = let u = below_power b in absurd (omega arith)
leftmost (suc turns) cols low high zero t h = omega (arith, turn_left turns 0 cols low high (omega arith) (omega arith))
leftmost (suc turns) cols low high (suc b) t h =
    let p = below_power b in
    let u = leftmost turns cols low (middle low high) b (omega arith) (omega arith) in
    omega (arith, turn_left turns 0 cols low high (omega arith) (omega arith))

-- so that ten are too few in every row of 512 columns or more
pub eleven_reached : (cols : List ℕ) → 2 ^ 9 ≤ length cols → most_looks ≤ looks_for 0 cols
unfolding looks_for
eleven_reached cols l =
    let u = leftmost (length cols) cols 0 (length cols) 9 (omega arith) (omega arith) in
    rw (← (position_zero cols), lt-ltb 0 (length cols) (omega arith)) (omega arith)
