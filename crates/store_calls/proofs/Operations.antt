-- An operation on any words, from what its code has found: no store, a refusal, or the final C in its slot.
use Prim.Native.Nat.{ℕ, ◌+◌, ◌-◌, ◌≤◌, ◌<◌}
use native.Mathlib.Omega.{arith}
use native.Mathlib.Decide.{dec_le}
use mathlib.Core.Path.{◌≡◌, refl, sym, ap, subst, ◌∙◌}
use mathlib.Core.Bool.{Bool, true, false, cond}
use mathlib.Core.List.{List}
use lib.ListN.{length, take, length-take}
use borrow.Author.Tests.{eqb-false, ne_eqb, le-leb, lt-leb, lt-ltb, le-ltb}
use Rattle.limits.specs.Limits.{slot_count, max_entries}
use Rattle.std.specs.Prelude.{Ok, Err}
use Rattle.answers.specs.declared.Refusal.{Refusal}
use Rattle.answers.specs.declared.Refusal.TheVariants.{InvalidStore}
use Rattle.answers.specs.Answers.{Answer}
use Rattle.answers.specs.Refusals.{accepted, refused, insufficient_space, invalid_store}
use Rattle.conditions.proofs.Tests.{refuted}
use Rattle.grid.specs.Grid.{Grid}
use Rattle.grid.specs.Entries.{entry_count}
use Rattle.matrix.specs.Layout.{rows, size_of}
use Rattle.encoding.specs.Encode.{grid_size}
use Rattle.encoding.proofs.Canonical.{encode_length}
use Rattle.operations.specs.declared.Call.{Call}
use Rattle.operations.specs.Calls.{call_final}
use Rattle.call_codes.specs.Decoding.{decoded}
use Rattle.refusals.specs.Cases.{first_applying}
use Rattle.slots.specs.Sections.{end_from, slot_at}
use Rattle.slots.specs.Valid.{store_valid}
use Rattle.slots.specs.Facts.{Store}
use Rattle.slots.specs.Room.{slot_put, words_with}
use Rattle.slots.proofs.Facts.{store_facts}
use Rattle.slots.proofs.Sections.{end_least}
use Rattle.model.specs.declared.Roles.{Roles}
use Rattle.model.specs.Model.{Model, holding, put, grid_at, needed_with}
use Rattle.model.specs.Effects.{wrote}
use Rattle.model.specs.Calls.{roles_of, Operate, OperationCall, operate_of, operation, operated, operation_effect, effect}
use Rattle.store_encoding.specs.Writing.{model_writing}
use Rattle.store_encoding.specs.Stores.{model_of, Performed}
use Rattle.store_encoding.proofs.Held.{slot_written, grid_model, needed_model}
use Rattle.store_encoding.proofs.Performed.{performed_no_store, performed_refused, performed_done}
use Rattle.store_calls.specs.Attempts.{
  asked,
  Operated,
  operation_refusal,
  roles_refusal,
  Holding,
  outputs_of,
  output_next,
  RefusedBy,
  DoneBy,
  Committed,
}
use Rattle.store_calls.proofs.Refusals.{roles_passed, agreement_passed}
use Rattle.store_calls.proofs.Evaluations.{not_empty}

-- ---- what `check` has found

-- the words are no store
pub no_store : (s : List ℕ) (r : Refusal) → Err r ≡ cond (store_valid s) (Ok (end_from slot_count s)) (Err InvalidStore)
    → (store_valid s ≡ false) × (r ≡ InvalidStore)
no_store s r e = go (store_valid s) refl e
  where
    go : (b : Bool) → store_valid s ≡ b → Err r ≡ cond b (Ok (end_from slot_count s)) (Err InvalidStore)
        → (store_valid s ≡ false) × (r ≡ InvalidStore)
    go true t q = cc
    go false t q = (t, cc)

-- they are one
pub record Found (s : List ℕ) (end : ℕ) : Type 0 where
  pub valid : store_valid s ≡ true
  pub store : Store s
  pub ends : end ≡ end_from slot_count s

pub store_found : (s : List ℕ) (end : ℕ) → Ok end ≡ cond (store_valid s) (Ok (end_from slot_count s)) (Err InvalidStore)
    → Found s end
store_found s end e = go (store_valid s) refl e
  where
    go : (b : Bool) → store_valid s ≡ b → Ok end ≡ cond b (Ok (end_from slot_count s)) (Err InvalidStore) → Found s end
    go true t q = record { valid = t; store = store_facts s t; ends = cc }
    go false t q = cc

-- ---- the operation

module _ (s : List ℕ) (o : Operate) where
  abbrev m : Model
  m = model_of s

  abbrev g : Grid
  g = operated m o

  abbrev k : ℕ
  k = o.roles.output

  abbrev v : ℕ
  v = output_next m o

  -- the same answer by another name
  pub operated_by : (answer a : Answer) (s' : List ℕ) → answer ≡ a → Operated s o a s' → Operated s o answer s'
  operated_by answer a s' e r = record { answer_is = ap wrote e ∙ r.answer_is; words_are = r.words_are }

  -- the words are no store
  pub operated_no_store : store_valid s ≡ false → Operated s o (refused invalid_store) s
  operated_no_store h = performed_no_store s (operation_effect o) h

  module _ (h : store_valid s ≡ true) where
    -- refused
    pub operated_refused : (code : ℕ) → code ≡ operation_refusal (length s) m o → (code ≡ 0 → ⊥)
        → Operated s o (refused code) s
    unfolding operation_refusal
    operated_refused code e n = performed_refused s (operation_effect o) h code e n

    -- the final C is in its slot
    operated_accepted : (n : ℕ) (s' : List ℕ) → operation_refusal (length s) m o ≡ 0 → n ≡ entry_count g
        → s' ≡ model_writing (length s) (put m k (holding v g)) → Operated s o (accepted n) s'
    unfolding operation_refusal
    operated_accepted n s' z e w =
        performed_done s (operation_effect o) h z (wrote (accepted n)) s' (ap (λ (c : ℕ). wrote (accepted c)) e) w

    module _ (z : roles_refusal m o.call o.roles ≡ 0) where
      -- refused by what is found when the final C is worked out
      pub operated_evaluated : (code : ℕ) → RefusedBy code m o → Operated s o (refused code) s
      operated_evaluated code r =
          operated_refused code (r.applying_is (length s) ∙ sym (roles_passed m o (length s) z)) r.some

      module _ (x : Holding s o.roles) (n : ℕ) (w : List ℕ) (d : DoneBy n m o w) where
        -- the words of the final C, and those that the sections then take
        abbrev size : ℕ
        size = size_of (rows (slot_at s k)) n

        abbrev taken : ℕ
        taken = words_with s k size

        -- the rows of the final C are those of old C, so its size is known from its entries
        size_of_lem : size ≡ grid_size g
        unfolding call_final
        size_of_lem =
            ap (λ (c : Grid). size_of c.rows n) (sym (grid_model s k (not_empty _ x.output)))
            ∙ ap (size_of (grid_at m k).rows) d.count

        -- and words that hold its writing are as long
        pub size_fits : size ≤ length w
        size_fits =
            let l = encode_length v g in
            let t = sym (length-take (grid_size g) w) ∙ ap length d.written in
            let i = size_of_lem in omega arith

        -- the room that the model asks for
        needed : needed_with m k g ≡ taken
        needed =
            needed_model s k (holding 0 g) (store_facts s h) x.slots.output
            ∙ ap (words_with s k) (encode_length 0 g ∙ sym size_of_lem)

        -- 7 to 10 do not apply, so 11 decides
        few : entry_count g ≤ max_entries
        few = let c = d.count in let l = d.few in omega arith

        output_is : operation_refusal (length s) m o ≡ first_applying (outputs_of m o (length s))
        output_is = roles_passed m o (length s) z ∙ agreement_passed m o (length s) d.agrees

        -- what is copied is the writing of the final C
        copied : slot_put s k (take size w) ≡ model_writing (length s) (put m k (holding v g))
        copied =
            ap (λ (i : ℕ). slot_put s k (take i w)) size_of_lem ∙ ap (slot_put s k) d.written
            ∙ slot_written s k (holding v g) (store_facts s h)

        -- the final C is committed
        pub operated_done : (answer : Answer) (s' : List ℕ) → Committed s k w n answer s' → Operated s o answer s'
        operated_done answer s' c = go (dec_le taken (length s))
          where
            go : Dec (taken ≤ length s) → Operated s o answer s'
            go (yes f) =
                let q : answer ≡ accepted n = c.answer_is ∙ rw (le-leb _ _ f) in
                let u : s' ≡ slot_put s k (take size w) = c.words_are ∙ rw q in
                let r : operation_refusal (length s) m o ≡ 0 = output_is ∙ rw (le-ltb _ _ few, needed, le-ltb _ _ f) in
                operated_by answer _ s' q (operated_accepted n s' r d.count (u ∙ copied))
            go (no f) =
                let i : length s < taken = omega arith in
                let q : answer ≡ refused insufficient_space = c.answer_is ∙ rw (lt-leb _ _ i) in
                let u : s' ≡ s = c.words_are ∙ rw q in
                let r : operation_refusal (length s) m o ≡ insufficient_space =
                output_is ∙ rw (le-ltb _ _ few, needed, lt-ltb _ _ i) in
                let p = operated_refused insufficient_space (sym r) (eqb-false insufficient_space 0 refl) in
                record { answer_is = ap wrote q ∙ p.answer_is; words_are = u ∙ p.words_are }

-- ---- the call

-- it is attempted with its numbers and its roles decoded
pub performed_run : (s : List ℕ) (x : OperationCall) (call : Call) (roles : Roles) (answer : Answer) (s' : List ℕ)
    → call ≡ decoded x.options x.verb → roles ≡ roles_of call x.named
    → Operated s (asked call roles x.is x.js x.work) answer s' → Performed s (operation x) (wrote answer) s'
unfolding effect
performed_run s x call roles answer s' e f o = subst (λ (y : Operate). Operated s y answer s') both o
  where
    both : asked call roles x.is x.js x.work ≡ operate_of x
    both =
        ap (λ (r : Roles). asked call r x.is x.js x.work) f
        ∙ ap (λ (y : Call). asked y (roles_of y x.named) x.is x.js x.work) e
