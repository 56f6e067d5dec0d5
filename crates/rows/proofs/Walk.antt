-- A walk over the entries of a row: which columns lie before an entry, between two entries, and behind the last. Cited by
-- the loops that go through a row entry by entry.
use Rattle.std.proofs.Common.{None, Some}
use Prim.Native.Nat.{ℕ, zero, suc, ◌+◌, ◌≤◌, ◌<◌}
use native.Mathlib.Omega.{arith}
use native.Mathlib.Decide.{dec_lt}
use mathlib.Core.Path.{◌≡◌, refl}
use mathlib.Core.List.{List, [], ◌∷◌}
use lib.ListN.{length, get_or, get_or-eq_default}
use Rattle.words.specs.Words.{at}
use Rattle.rows.specs.Row.{lookup, Row}
use Rattle.rows.proofs.Found.{lookup_absent, lookup_at}

-- the column where entry p stands, or n past the last entry
abbrev pub front : ℕ → List ℕ → ℕ → ℕ
front n cols p = get_or cols p n

-- within the list the default does not count
pub front_at : (n : ℕ) (cols : List ℕ) (p : ℕ) → p < length cols → front n cols p ≡ at cols p
front_at n [] p l = absurd (omega arith)
front_at n (c ∷ cols) zero l = refl
front_at n (c ∷ cols) (suc p) l = front_at n cols p (omega arith)

pub front_end : (n : ℕ) (cols : List ℕ) (p : ℕ) → length cols ≤ p → front n cols p ≡ n
front_end n cols p l = get_or-eq_default cols n l

-- without entries every cell is absent
pub absent_all : (cols vals : List ℕ) → length cols ≡ 0 → (j : ℕ) → lookup cols vals j ≡ None
absent_all cols vals l j = lookup_absent cols vals j (λ k m e. omega arith)

module _ {n : ℕ} {cols vals : List ℕ} (w : Row n cols vals) where
  -- it is a row of more columns too
  pub row_wider : {m : ℕ} → n ≤ m → Row m cols vals
  row_wider l = record {
    even = w.even;
    rises = w.rises;
    small = λ a b. omega (arith, w.small a b);
  }

  -- the cell of entry p
  pub lookup_entry : (p : ℕ) → p < length cols → lookup cols vals (at cols p) ≡ Some (at vals p)
  lookup_entry p l = lookup_at cols vals p w.even l (λ k b. w.rises.up k p b l)

  -- the front goes up
  pub front_above : (k p : ℕ) → k < p → k < length cols → at cols k < front n cols p
  front_above k p l m = go (dec_lt p (length cols))
    where
      go : Dec (p < length cols) → at cols k < front n cols p
      go (yes d) = omega (arith, w.rises.up k p l d, front_at n cols p d)
      go (no d) = omega (arith, w.small k m, front_end n cols p (omega arith))

  -- no column from an entry on is before the front there
  front_below : (p k : ℕ) → p ≤ k → k < length cols → front n cols p ≤ at cols k
  front_below p k l m = go (dec_lt p k)
    where
      go : Dec (p < k) → front n cols p ≤ at cols k
      go (yes d) = omega (arith, w.rises.up p k d m, front_at n cols p (omega arith))
      go (no d) = let e : k ≡ p = omega arith in rw e (omega (arith, front_at n cols p (omega arith)))

  -- there is no entry before the first
  pub absent_first : (j : ℕ) → j < front n cols 0 → lookup cols vals j ≡ None
  absent_first j l = lookup_absent cols vals j (λ k m e. omega (arith, front_below 0 k (omega arith) m))

  -- and none between entry p and the next
  pub absent_next : (p j : ℕ) → p < length cols → at cols p < j → j < front n cols (p + 1) → lookup cols vals j ≡ None
  absent_next p j l a b = lookup_absent cols vals j (λ k m e. go k m e (dec_lt p k))
    where
      go : (k : ℕ) → k < length cols → at cols k ≡ j → Dec (p < k) → ⊥
      go k m e (yes d) = omega (arith, front_below (p + 1) k (omega arith) m)
      go k m e (no d) = omega (arith, front_below k p (omega arith) l, front_at n cols k m)

  -- columns past the last have no entries
  pub absent_past : (j : ℕ) → n ≤ j → lookup cols vals j ≡ None
  absent_past j l = lookup_absent cols vals j (λ k m e. omega (arith, w.small k m))
