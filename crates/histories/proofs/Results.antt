-- A result of a call's function for the reply of every call: the number that it gives, or the refusal.
use Rattle.std.proofs.Common.{ℕ, ◌≡◌, ◌<◌, refl, sym, ap, ◌∙◌, Bool, true, false, cond, List, length, Result, Ok, Err, arith}
use native.Mathlib.Decide.{ℕ_discrete}
use borrow.Author.Tests.{eq-eqb, ne_eqb}
use Rattle.grid.specs.declared.EntryAt.{EntryAt}
use Rattle.answers.specs.declared.Refusal.{Refusal}
use Rattle.answers.specs.Refusals.{refused, invalid_store}
use Rattle.answers.specs.Reads.{refused_read}
use Rattle.answers.specs.Numbers.{refused_number}
use Rattle.answers.specs.Results.{answer, cell_answer, total_answer}
use Rattle.answers.proofs.Numbers.{number_limit, refusal_numbered}
use Rattle.slots.specs.Valid.{store_valid}
use Rattle.model.specs.Model.{Model}
use Rattle.model.specs.Effects.{
  Reply,
  wrote,
  found,
  totalled,
  Kind,
  writing,
  reading,
  totalling,
  refused_as,
  refusal_of,
  reply_of,
}
use Rattle.model.specs.Calls.{
  StoreCall,
  new_empty,
  drop_slot,
  set_cell,
  clear_cell,
  read_cell,
  operation,
  reduce_slot,
  formula,
  effect,
}
use Rattle.model.proofs.Effects.{refusal_below, effect_sound}
use Rattle.store_encoding.specs.Stores.{model_of, effect_reply, reply_on}

-- a result of the kind whose answer the reply is
abbrev pub Given : Kind → Reply → Type 0
Given writing r = (x : Result ℕ Refusal) × (wrote (answer x) ≡ r)
Given reading r = (x : Result EntryAt Refusal) × (found (cell_answer x) ≡ r)
Given totalling r = (x : Result ℕ Refusal) × (totalled (total_answer x) ≡ r)

-- of a refusal by its number
refused_given : (k : Kind) (n : ℕ) → (n ≡ 0 → ⊥) → n < number_limit → Given k (refused_as k n)
refused_given writing n f l =
    let z = refusal_numbered n f l in (Err z.refusal, ap (λ (c : ℕ). wrote (refused c)) z.number_is)
refused_given reading n f l =
    let z = refusal_numbered n f l in (Err z.refusal, ap (λ (c : ℕ). found (refused_read c)) z.number_is)
refused_given totalling n f l =
    let z = refusal_numbered n f l in (Err z.refusal, ap (λ (c : ℕ). totalled (refused_number c)) z.number_is)

-- of an accepted call
accepted_given : (c : StoreCall) (m : Model) → Given (effect c).kind ((effect c).answer m)
unfolding effect
accepted_given (new_empty k r c) m = (Ok _, refl)
accepted_given (drop_slot k) m = (Ok _, refl)
accepted_given (set_cell k i j v) m = (Ok _, refl)
accepted_given (clear_cell k i j) m = (Ok _, refl)
accepted_given (read_cell k i j) m = (Ok _, refl)
accepted_given (operation x) m = (Ok _, refl)
accepted_given (reduce_slot k monoid) m = (Ok _, refl)
accepted_given (formula x) m = (Ok _, refl)

-- of any call on a model
reply_given : (c : StoreCall) (n : ℕ) (m : Model) → Given (effect c).kind (reply_of (effect c) n m)
unfolding reply_of
reply_given c n m = go (ℕ_discrete (refusal_of (effect c) n m) 0)
  where
    go : Dec (refusal_of (effect c) n m ≡ 0) → Given (effect c).kind (reply_of (effect c) n m)
    go (yes z) = rw (eq-eqb _ _ z) (accepted_given c m)
    go (no z) =
        rw (ne_eqb _ _ z)
        (refused_given (effect c).kind (refusal_of (effect c) n m) z (refusal_below (effect c) n m (effect_sound c)))

-- and on any words
pub given_on : (s : List ℕ) (c : StoreCall) → Given (effect c).kind (reply_on s c)
unfolding effect_reply
given_on s c = go (store_valid s)
  where
    go : (b : Bool) → Given (effect c).kind
        (cond b (reply_of (effect c) (length s) (model_of s)) (refused_as (effect c).kind invalid_store))
    go true = reply_given c (length s) (model_of s)
    go false = refused_given (effect c).kind invalid_store (λ e. omega arith) (omega arith)
