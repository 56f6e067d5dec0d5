-- The tests of the four roles, 12 and 13, one after the other, and what is known where none applies.
use Prim.Native.Nat.{ℕ, ◌<◌}
use mathlib.Core.Path.{◌≡◌, refl, sym, ap, ◌∙◌}
use mathlib.Core.Bool.{Bool, true, false, cond, false≢true}
use mathlib.Core.List.{List}
use lib.ListN.{length}
use lib.Dec.{leb, eqb}
use native.Mathlib.Decide.{ℕ_discrete}
use borrow.Author.Tests.{leb-false, eq-eqb, ne_eqb}
use Rattle.limits.specs.Limits.{slot_count}
use Rattle.answers.specs.Refusals.{invalid_store, empty_slot}
use Rattle.operations.specs.declared.Call.{Call}
use Rattle.operations.specs.Calls.{has_second}
use Rattle.refusals.specs.Cases.{Case, given, first_applying}
use Rattle.refusals.proofs.Cases.{later}
use Rattle.slots.specs.Sections.{slot_at}
use Rattle.slots.specs.Facts.{Held, Store}
use Rattle.slots.proofs.Facts.{held_facts}
use Rattle.model.specs.declared.Roles.{Roles}
use Rattle.model.specs.Model.{slot_of, is_vacant}
use Rattle.model.specs.Calls.{roles_of, no_slot, no_grid, role_cases}
use Rattle.store_encoding.specs.Stores.{model_of}
use Rattle.store_encoding.proofs.Held.{vacant_model, holding_model}
use Rattle.store_calls.specs.Attempts.{InStore, Holding}

-- ---- the roles

-- the four slots, with the two that a call may lack chosen
pub roles_made : (call : Call) (named : Roles) (second mask : ℕ) (there : Bool) → there ≡ has_second call.operation
    → second ≡ cond there named.second named.first → mask ≡ cond call.has_mask named.mask named.output
    → record { first = named.first; second = second; mask = mask; output = named.output } ≡ roles_of call named
roles_made call named second mask there t e f = rw (e, t, f)

-- ---- one test of all four roles, with one number

module _ (n : ℕ) (f : ℕ → Bool) (r : Roles) where
  abbrev cases : List Case
  cases = role_cases (λ k. given n (f k)) r

  -- the first role that it applies to, or none
  pub first_role : f r.first ≡ true → n ≡ first_applying cases
  first_role a = rw a

  module _ (a : f r.first ≡ false) where
    pub second_role : f r.second ≡ true → n ≡ first_applying cases
    second_role b = rw (a, b)

    module _ (b : f r.second ≡ false) where
      pub mask_role : f r.mask ≡ true → n ≡ first_applying cases
      mask_role c = rw (a, b, c)

      module _ (c : f r.mask ≡ false) where
        pub output_role : f r.output ≡ true → n ≡ first_applying cases
        output_role d = rw (a, b, c, d)

        pub no_role : f r.output ≡ false → 0 ≡ first_applying cases
        no_role d = rw (a, b, c, d)

  -- where the number is 0, it applies to none
  record NoRole : Type 0 where
    pub first : f r.first ≡ false
    pub second : f r.second ≡ false
    pub mask : f r.mask ≡ false
    pub output : f r.output ≡ false

  no_role_of : eqb n 0 ≡ false → first_applying cases ≡ 0 → NoRole
  no_role_of z h =
      let a = later (f r.first) n _ z h in
      let b = later (f r.second) n _ z a.rest in
      let c = later (f r.mask) n _ z b.rest in
      let d = later (f r.output) n _ z c.rest in
      record { first = a.here; second = b.here; mask = c.here; output = d.here }

-- ---- what the tests say of the roles

-- a slot past the last
abbrev pub past : ℕ → Bool
past k = leb slot_count k

-- an empty slot of a store
abbrev pub empty : List ℕ → ℕ → Bool
empty s k = is_vacant (slot_of (model_of s) k)

-- as the code sees it in the words x of the slot: whether there are none
pub found : (s x : List ℕ) (k : ℕ) (b : Bool) → x ≡ slot_at s k → b ≡ eqb (length x) 0 → empty s k ≡ b
found s x k b e f = go (ℕ_discrete (length x) 0)
  where
    go : Dec (length x ≡ 0) → empty s k ≡ b
    go (yes z) = vacant_model s k (ap length (sym e) ∙ z) ∙ sym (f ∙ eq-eqb (length x) 0 z)
    go (no n) = ap is_vacant (holding_model s k (λ z. n (ap length e ∙ z))) ∙ sym (f ∙ ne_eqb (length x) 0 n)

-- where 12 does not apply, each role names a slot
pub in_store : (r : Roles) → first_applying (role_cases no_slot r) ≡ 0 → InStore r
in_store r h =
    let n = no_role_of invalid_store past r refl h in
    record {
      first = leb-false _ _ n.first;
      second = leb-false _ _ n.second;
      mask = leb-false _ _ n.mask;
      output = leb-false _ _ n.output;
    }

-- a slot that the model does not have empty holds a matrix
holds : (s : List ℕ) (k : ℕ) → Store s → k < slot_count → empty s k ≡ false → Held (slot_at s k)
holds s k h l e =
    held_facts (slot_at s k) (h.contents k l) (λ z. false≢true (sym e ∙ vacant_model s k z))

-- and where 13 does not apply either, each holds a matrix
pub holding_roles : (s : List ℕ) (r : Roles) → Store s → InStore r → first_applying (role_cases (no_grid (model_of s)) r) ≡ 0
    → Holding s r
holding_roles s r h i z =
    let n = no_role_of empty_slot (empty s) r refl z in
    record {
      slots = i;
      first = holds s r.first h i.first n.first;
      second = holds s r.second h i.second n.second;
      mask = holds s r.mask h i.mask n.mask;
      output = holds s r.output h i.output n.output;
    }
