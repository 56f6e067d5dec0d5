-- A table read at a number that has no arm in the code's `match`: what the last arm of each decoder cites.
use Rattle.std.proofs.Common.{None}
use mathlib.Core.Path.{◌≡◌, refl, sym, subst}
use mathlib.Core.List.{List}
use Prim.Native.Nat.{ℕ, zero, suc, ◌≤◌, zero-le}
use native.Mathlib.Decide.{ℕ_discrete}
use native.Mathlib.Omega.{arith}
use lib.ListN.{get_or, length, get_or-eq_default}
use Rattle.operator_codes.specs.Codes.{monoid_table, monoid_numbered}

-- n is none of 0 to k - 1, in the form that the last arm of a `match` leaves
abbrev pub Past : ℕ → ℕ → Type 0
Past zero n = Unit {0}
Past (suc k) n = Past k n × (n ≡ k → ⊥)

-- so n is at least k
past : (k n : ℕ) → Past k n → k ≤ n
past zero n h = zero-le
past (suc k) n h = next (past k n h.0) h.1
  where
    next : k ≤ n → (n ≡ k → ⊥) → suc k ≤ n
    next l f = omega arith

-- a number past the end of a table gives the default
pub unlisted : {X : Type 0} (table : List X) (d : X) (n : ℕ) → Past (length table) n → d ≡ get_or table n d
unlisted table d n h = sym (get_or-eq_default table d (past (length table) n h))

-- what holds of k, and of n where n is not k, holds of n
unless : (P : ℕ → Type 0) (k n : ℕ) → P k → ((n ≡ k → ⊥) → P n) → P n
unless P k n here other = by (ℕ_discrete n k)
  where
    by : Dec (n ≡ k) → P n
    by (yes e) = subst P (sym e) here
    by (no f) = other f

-- the monoids' table has None at 0, 1, 2 and 4 too
pub no_monoid_lem : (n : ℕ) → (((Unit {0} × (n ≡ 3 → ⊥)) × (n ≡ 5 → ⊥)) × (n ≡ 6 → ⊥)) × (n ≡ 7 → ⊥)
    → None ≡ monoid_numbered n
unfolding monoid_numbered
no_monoid_lem n f =
    unless Right 0 n refl λ n0.
    unless Right 1 n refl λ n1.
    unless Right 2 n refl λ n2.
    unless Right 4 n refl λ n4.
    unlisted monoid_table None n
    ((((((((tt, n0), n1), n2), f.0.0.0.1), n4), f.0.0.1), f.0.1), f.1)
  where
    Right : ℕ → Type 0
    Right k = None ≡ monoid_numbered k
