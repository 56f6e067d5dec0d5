-- What the results of `slots::check` and `slots::fits` say.
use Prim.Native.Nat.{ℕ, ◌+◌, ◌-◌, ◌≤◌, ◌<◌}
use native.Mathlib.Omega.{arith}
use mathlib.Core.Path.{◌≡◌, refl}
use mathlib.Core.Bool.{Bool, true, false, cond}
use mathlib.Core.List.{List}
use lib.ListN.{length}
use lib.Dec.{leb}
use borrow.Author.Tests.{leb-true, leb-false}
use Rattle.std.specs.Prelude.{Ok, Err}
use Rattle.answers.specs.declared.Refusal.{Refusal}
use Rattle.answers.specs.declared.Refusal.TheVariants.{InvalidStore}
use Rattle.limits.specs.Limits.{slot_count}
use Rattle.conditions.proofs.Tests.{said_no, said_yes}
use Rattle.slots.specs.Sections.{end_from, count_at}
use Rattle.slots.specs.Valid.{store_valid}
use Rattle.slots.specs.Facts.{Store}
use Rattle.slots.proofs.Facts.{store_facts}

-- the words are no store
pub record Unchecked (s : List ℕ) (e : Refusal) : Type 0 where
  pub invalid : store_valid s ≡ false
  pub refusal : e ≡ InvalidStore

pub unchecked : (s : List ℕ) {e : Refusal}
    → Err e ≡ cond (store_valid s) (Ok (end_from slot_count s)) (Err InvalidStore) → Unchecked s e
unchecked s {e} q = go (store_valid s) refl q
  where
    go : (b : Bool) → store_valid s ≡ b → Err e ≡ cond b (Ok (end_from slot_count s)) (Err InvalidStore)
        → Unchecked s e
    go true v f = absurd (grind arith)
    go false v f = record { invalid = v; refusal = grind arith }

-- the words are a store
pub record Checked (s : List ℕ) (end : ℕ) : Type 0 where
  pub valid : store_valid s ≡ true
  pub store : Store s
  pub ends : end ≡ end_from slot_count s

pub checked : (s : List ℕ) {end : ℕ} → Ok end ≡ cond (store_valid s) (Ok (end_from slot_count s)) (Err InvalidStore)
    → Checked s end
checked s {end} q = go (store_valid s) refl q
  where
    go : (b : Bool) → store_valid s ≡ b → Ok end ≡ cond b (Ok (end_from slot_count s)) (Err InvalidStore)
        → Checked s end
    go true v f = record { valid = v; store = store_facts s v; ends = grind arith }
    go false v f = absurd (grind arith)

-- after `if !slots::fits(..)`
module _ (s : List ℕ) (k end size : ℕ) {r : Bool} (e : r ≡ leb (end - count_at s k + size) (length s)) where
  pub no_fit : r ≡ false → length s < end - count_at s k + size
  no_fit t = leb-false _ _ (said_no e t)

  pub fit : r ≡ true → end - count_at s k + size ≤ length s
  fit t = leb-true _ _ (said_yes e t)
