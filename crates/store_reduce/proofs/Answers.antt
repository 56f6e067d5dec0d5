-- What `reduce` answers on any words, as the code reaches it: 12, 2, and then 13 or the total.
use Rattle.std.proofs.Common.{None, Some}
use Prim.Native.Nat.{ℕ, ◌≤◌, ◌<◌}
use native.Mathlib.Decide.{ℕ_discrete}
use mathlib.Core.Path.{◌≡◌}
use mathlib.Core.Bool.{true, false}
use mathlib.Core.List.{List}
use lib.ListN.{length}
use borrow.Author.Tests.{le-leb, lt-leb, eq-eqb, ne_eqb}
use Rattle.limits.specs.Limits.{slot_count}
use Rattle.answers.specs.Refusals.{invalid_store, unknown_operator}
use Rattle.answers.specs.Numbers.{refused_number}
use Rattle.operators.specs.declared.Monoid.{Monoid}
use Rattle.operator_codes.specs.Codes.{monoid_numbered}
use Rattle.slots.specs.Sections.{slot_at}
use Rattle.slots.specs.Valid.{store_valid}
use Rattle.model.specs.Effects.{totalled, reply_of}
use Rattle.model.specs.Calls.{reduce_slot, effect}
use Rattle.store_encoding.specs.Stores.{effect_reply, reply_on}
use Rattle.store_encoding.proofs.Held.{vacant_model, holding_model}
use Rattle.store_reduce.specs.Totals.{slot_answer}

module _ (s : List ℕ) (k number : ℕ) where
  -- the words are no store
  pub total_no_store : store_valid s ≡ false → totalled (refused_number invalid_store) ≡ reply_on s (reduce_slot k number)
  unfolding effect effect_reply
  total_no_store v = rw v

  module _ (v : store_valid s ≡ true) where
    -- a slot past the last
    pub total_no_slot : slot_count ≤ k → totalled (refused_number invalid_store) ≡ reply_on s (reduce_slot k number)
    unfolding effect effect_reply reply_of
    total_no_slot l = rw (v, le-leb _ _ l)

    -- no monoid
    pub total_no_monoid : k < slot_count → monoid_numbered number ≡ None
        → totalled (refused_number unknown_operator) ≡ reply_on s (reduce_slot k number)
    unfolding effect effect_reply reply_of
    total_no_monoid l e = rw (v, lt-leb _ _ l, e)

    -- an empty slot, or the total
    pub total_reached : k < slot_count → (m : Monoid) → monoid_numbered number ≡ Some m
        → totalled (slot_answer m s k) ≡ reply_on s (reduce_slot k number)
    unfolding effect effect_reply reply_of
    total_reached l m e = go (ℕ_discrete (length (slot_at s k)) 0)
      where
        go : Dec (length (slot_at s k) ≡ 0) → totalled (slot_answer m s k) ≡ reply_on s (reduce_slot k number)
        go (yes z) = rw (v, lt-leb _ _ l, e, vacant_model s k z, eq-eqb _ _ z)
        go (no z) = rw (v, lt-leb _ _ l, e, holding_model s k z, ne_eqb _ _ z)
