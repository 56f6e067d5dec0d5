-- What a search for a column finds is `column_at`, and what `column_at` tells of the column and of the cell there.
use Rattle.std.proofs.Common.{Err, Ok, Result}
use Prim.Native.Nat.{ℕ, ◌+◌, ◌<◌}
use native.Mathlib.Omega.{arith}
use native.Mathlib.Decide.{dec_lt, ℕ_discrete}
use mathlib.Core.Path.{◌≡◌, refl, sym, ap}
use mathlib.Core.List.{List}
use lib.ListN.{length}
use Rattle.words.specs.Words.{at}
use Rattle.grid.specs.Position.{entry_of}
use Rattle.grid.specs.declared.EntryAt.TheVariants as entry
use Rattle.rows.specs.Row.{lookup, position, Rises}
use Rattle.rows.specs.Place.{column_at, Inside, cell_beside, Among, entry_beside}
use Rattle.rows.proofs.Position.{stands}
use Rattle.rows.proofs.Found.{lookup_found, lookup_missing}

-- for a search that has given p, and then tested `p < cols.len()` and `cols[p] == j`
module _ (cols : List ℕ) (rises : Rises cols) (j p : ℕ) (e : p ≡ position j cols) where
  -- the column at the position is j
  pub column_found : p < length cols → at cols p ≡ j → Ok p ≡ column_at j cols
  unfolding column_at
  column_found l h = rw (lookup_found cols cols refl rises j p e l h) (ap Ok e)

  -- there is no column at the position, or it is another one
  pub column_missing : (p < length cols → at cols p ≡ j → ⊥) → Err p ≡ column_at j cols
  unfolding column_at
  column_missing h = rw (lookup_missing cols cols refl rises j p e h) (ap Err e)

-- what the place of column j tells
abbrev pub Placed : ℕ → List ℕ → Result ℕ ℕ → Type 0
Placed j cols (Ok p) = (p ≡ position j cols) × (p < length cols) × (at cols p ≡ j)
Placed j cols (Err p) = (p ≡ position j cols) × (p < length cols → at cols p ≡ j → ⊥)

placed : (j : ℕ) (cols : List ℕ) → Rises cols → Placed j cols (column_at j cols)
placed j cols r = go (dec_lt (position j cols) (length cols)) (ℕ_discrete (at cols (position j cols)) j)
  where
    go : Dec (position j cols < length cols) → Dec (at cols (position j cols) ≡ j) → Placed j cols (column_at j cols)
    go (yes l) (yes e) = rw (← (column_found cols r j _ refl l e)) (refl, l, e)
    go (yes l) (no e) = rw (← (column_missing cols r j _ refl (λ m. e))) (refl, λ m. e)
    go (no l) e = rw (← (column_missing cols r j _ refl (λ m. absurd (l m)))) (refl, λ m. absurd (l m))

pub place_told : (j : ℕ) (cols : List ℕ) (r : Result ℕ ℕ) → Rises cols → r ≡ column_at j cols → Placed j cols r
place_told j cols r rises e = rw e (placed j cols rises)

-- the place that a search has found gives the cell, and the entry
module _ (cols vals : List ℕ) (even : length vals ≡ length cols) (rises : Rises cols) (j : ℕ) where
  beside : (r : Result ℕ ℕ) → Placed j cols r → cell_beside vals r ≡ lookup cols vals j
  beside (Ok p) w = sym (lookup_found cols vals even rises j p w.0 w.1 w.2)
  beside (Err p) w = sym (lookup_missing cols vals even rises j p w.0 w.1)

  pub place_cell : (r : Result ℕ ℕ) → r ≡ column_at j cols → cell_beside vals r ≡ lookup cols vals j
  place_cell r e = beside r (place_told j cols r rises e)

  entry_beside_lem : (start : ℕ) (r : Result ℕ ℕ) → Placed j cols r
      → entry_beside vals start r ≡ entry_of (lookup cols vals j) (start + position j cols)
  entry_beside_lem start (Ok p) w =
      rw (lookup_found cols vals even rises j p w.0 w.1 w.2)
      (ap (λ (q : ℕ). entry.Present (at vals p) (start + q)) w.0)
  entry_beside_lem start (Err p) w =
      rw (lookup_missing cols vals even rises j p w.0 w.1) (ap (λ (q : ℕ). entry.Absent (start + q)) w.0)

  pub place_entry : (start : ℕ) (r : Result ℕ ℕ) → r ≡ column_at j cols
      → entry_beside vals start r ≡ entry_of (lookup cols vals j) (start + position j cols)
  place_entry start r e = entry_beside_lem start r (place_told j cols r rises e)

-- and has a value beside it where it is present, if there are as many values as columns
pub place_inside : (cols : List ℕ) (n : ℕ) → n ≡ length cols → Rises cols → (j : ℕ) (r : Result ℕ ℕ)
    → r ≡ column_at j cols → Inside r n
place_inside cols n even rises j r e = within r (place_told j cols r rises e)
  where
    within : (x : Result ℕ ℕ) → Placed j cols x → Inside x n
    within (Ok p) w = let l = w.1 in omega arith
    within (Err p) w = tt

-- it is among as many values as there are columns
pub place_among : (cols : List ℕ) (n : ℕ) → n ≡ length cols → Rises cols → (j : ℕ) (r : Result ℕ ℕ)
    → r ≡ column_at j cols → Among r n
place_among cols n even rises j r e = within r (place_told j cols r rises e)
  where
    within : (x : Result ℕ ℕ) → Placed j cols x → Among x n
    within (Ok p) w = let l = w.1 in omega arith
    within (Err p) w = let l = w.0 in let s = (stands j cols rises).within in omega arith
