-- Halving the range for a column: what holds of the columns on either side, and that the place found is `position`.
use Prim.Native.Nat.{ℕ, zero, suc, ◌+◌, ◌≤◌, ◌<◌}
use native.Mathlib.Omega.{arith}
use native.Mathlib.Decide.{dec_lt}
use mathlib.Core.Path.{◌≡◌, refl, ap}
use mathlib.Core.List.{List, [], ◌∷◌}
use lib.ListN.{length}
use borrow.Author.Tests.{lt-ltb, le-ltb}
use Rattle.words.specs.Words.{at}
use Rattle.rows.specs.Row.{Rises, position}

-- every column before the index is below j
abbrev pub Below : ℕ → List ℕ → ℕ → Type 0
Below j cols low = (k : ℕ) → k < low → at cols k < j

-- no column from the index on is below j
abbrev pub NotBelow : ℕ → List ℕ → ℕ → Type 0
NotBelow j cols high = (k : ℕ) → high ≤ k → k < length cols → j ≤ at cols k

-- the turn that goes on to the right of the middle
pub below_mid : (j : ℕ) (cols : List ℕ) (mid : ℕ) → Rises cols → mid < length cols → at cols mid < j
    → Below j cols (mid + 1)
below_mid j cols mid r l h k b = go (dec_lt k mid)
  where
    go : Dec (k < mid) → at cols k < j
    go (yes d) = let u = r.up k mid d l in omega arith
    go (no d) = let e : k ≡ mid = omega arith in rw e h

-- the turn that goes on to the left of it
pub not_below_mid : (j : ℕ) (cols : List ℕ) (mid : ℕ) → Rises cols → j ≤ at cols mid → NotBelow j cols mid
not_below_mid j cols mid r h k b l = go (dec_lt mid k)
  where
    go : Dec (mid < k) → j ≤ at cols k
    go (yes d) = let u = r.up mid k d l in omega arith
    go (no d) = let e : k ≡ mid = omega arith in rw e h

-- where both meet is the position
pub position_found : (j : ℕ) (cols : List ℕ) (p : ℕ) → p ≤ length cols → Below j cols p → NotBelow j cols p
    → p ≡ position j cols
unfolding position
position_found j [] zero l b n = refl
position_found j [] (suc p) l b n = absurd (omega arith)
position_found j (c ∷ cols) zero l b n = let u : j ≤ c = n 0 (omega arith) (omega arith) in rw (le-ltb c j u)
position_found j (c ∷ cols) (suc p) l b n =
    let u : c < j = b 0 (omega arith) in
    rw (lt-ltb c j u)
    (ap suc (position_found j cols p (omega arith) (λ k h. b (suc k) (omega arith))
    (λ k h m. n (suc k) (omega arith) (omega arith))))
