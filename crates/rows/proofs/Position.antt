-- Where `position j cols` lies among the columns, and how it moves from one column number to the next.
use Prim.Native.Nat.{ℕ, zero, suc, ◌≤◌, ◌<◌}
use native.Mathlib.Omega.{arith}
use native.Mathlib.Decide.{dec_lt}
use mathlib.Core.Path.{◌≡◌}
use mathlib.Core.List.{List, [], ◌∷◌}
use lib.ListN.{length}
use borrow.Author.Tests.{lt-ltb, le-ltb}
use Rattle.words.specs.Words.{at}
use Rattle.rows.specs.Row.{position, Rises}
use Rattle.rows.proofs.Search.{Below, NotBelow, not_below_mid, position_found}

-- what holds of the position in any list: columns below j before it, and none below j at it
record Nearby (j : ℕ) (cols : List ℕ) (p : ℕ) : Type 0 where
  within : p ≤ length cols
  before : Below j cols p
  here : p < length cols → j ≤ at cols p

-- one more column in front
below_cons : (j c : ℕ) (cols : List ℕ) (p : ℕ) → c < j → Below j cols p → Below j (c ∷ cols) (suc p)
below_cons j c cols p l b zero m = l
below_cons j c cols p l b (suc k) m = b k (omega arith)

-- by the turns of `position`
nearby : (j : ℕ) (cols : List ℕ) → Nearby j cols (position j cols)
unfolding position
nearby j [] = record { within = omega arith; before = λ k l. absurd (omega arith); here = λ l. absurd (omega arith) }
nearby j (c ∷ cols) = go (dec_lt c j) (nearby j cols)
  where
    go : Dec (c < j) → Nearby j cols (position j cols) → Nearby j (c ∷ cols) (position j (c ∷ cols))
    go (yes l) s = rw (lt-ltb c j l) (record {
      within = omega arith;
      before = below_cons j c cols (position j cols) l s.before;
      here = λ m. s.here (omega arith);
    })
    go (no l) s = rw (le-ltb c j (omega arith)) (record {
      within = omega arith;
      before = λ k m. absurd (omega arith);
      here = λ m. omega arith;
    })

-- the position in a row that rises: columns below j before it, none below j from there on
pub record Stands (j : ℕ) (cols : List ℕ) (p : ℕ) : Type 0 where
  pub within : p ≤ length cols
  pub before : Below j cols p
  pub after : NotBelow j cols p

-- `position` stands there
pub stands : (j : ℕ) (cols : List ℕ) → Rises cols → Stands j cols (position j cols)
stands j cols r =
    let s = nearby j cols in
    record {
      within = s.within;
      before = s.before;
      after = λ k b l. not_below_mid j cols (position j cols) r (s.here (omega arith)) k b l;
    }

-- before column 0 there is none
pub position_zero : (cols : List ℕ) → 0 ≡ position 0 cols
position_zero cols = position_found 0 cols 0 (omega arith) (λ k l. absurd (omega arith)) (λ k b l. omega arith)

module _ (j : ℕ) (cols : List ℕ) (p : ℕ) (r : Rises cols) (s : Stands j cols p) where
  -- column j is there: the next column's position is one further
  pub position_moves : p < length cols → at cols p ≡ j → suc p ≡ position (suc j) cols
  position_moves l e = position_found (suc j) cols (suc p) l below
      (λ k b m. let u = r.up p k b m in omega arith)
    where
      below : Below (suc j) cols (suc p)
      below k b = go (dec_lt k p)
        where
          go : Dec (k < p) → at cols k < suc j
          go (yes d) = let u = s.before k d in omega arith
          go (no d) = let z : k ≡ p = omega arith in rw z (omega arith)

  -- column j is not there: the next column's position is the same
  pub position_stays : (p < length cols → at cols p ≡ j → ⊥) → p ≡ position (suc j) cols
  position_stays h = position_found (suc j) cols p s.within (λ k b. let u = s.before k b in omega arith)
      (λ k b l. not_below_mid (suc j) cols p r (above (omega arith)) k b l)
    where
      above : p < length cols → suc j ≤ at cols p
      above l = let u = s.after p (omega arith) l in let n : at cols p ≡ j → ⊥ = h l in omega arith
