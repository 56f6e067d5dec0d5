-- Document 02, A14: "an accepted extract of the listed places right after an accepted assign, both without mask,
-- accumulator or flags, gives A's earlier grid back".
--
-- What a call does is taken from the contract of `calls::operate`, on lent matrices, and of `store_calls::operate`, on a
-- store, by name: `Reads.Learnt` is what a caller learns when it returns.
use Rattle.std.specs.Prelude.{ℕ, ◌≡◌, false, List, [], ◌∷◌, Result, None}
use contract.Lifetimes.{Lfts}
use Rattle.std.specs.Borrow.{Bor, MutBor}
use borrow.Fn.Picked.{KnownAs}
use Rattle.answers.specs.declared.Refusal.{Refusal}
use Rattle.answers.specs.Results.{answer}
use Rattle.words.specs.Lent.{Address, lent, lent_mut}
use Rattle.grid.specs.Grid.{Same}
use Rattle.matrix.specs.Layout.{grid_of}
use Rattle.call_codes.specs.declared.Options.{Options}
use Rattle.call_codes.specs.declared.Verb.{Verb}
use Rattle.call_codes.specs.declared.Verb.TheVariants.{Assign, Extract}
use Rattle.calls.proofs.operate.Reads as operate_reads
use Rattle.calls.proofs.operate.Statement as operate_statement
use Rattle.calls.proofs.operate.Kinds as operate_kinds
use Rattle.model.specs.Model.{grid_at}
use Rattle.model.specs.Effects.{Reply, code_of}
use Rattle.model.specs.Calls.{StoreCall, operate}
use Rattle.store_encoding.specs.Stores.{model_of}
use Rattle.histories.specs.Lists.{Runs}

-- "both without mask, accumulator or flags"
abbrev pub plainly : Options
plainly = record { flags = 0; has_mask = false; accumulator = None }

-- An accepted call on lent matrices by a verb, of the first input a and the lists is and js: c and c' are all words of C's
-- buffer before the call and after it. The slices lent as a second input and a mask, which the call does not look at, and
-- the words of the workspace are any.
pub data Accepted (verb : Verb) (a is js c c' : List ℕ) : Type 0 where
  accepted_call : (b mask : Bor (List ℕ)) (work work' : List ℕ) (p q r x y : Address) (κs : Lfts 6)
      (result : Result ℕ Refusal)
      → operate_reads.Learnt κs
      (plainly, (verb, (lent p a, (b, (mask, (lent x is, (lent y js, (lent_mut q c, (lent_mut r work, tt))))))))) result
      (plainly, (verb, (lent p a, (b, (mask, (lent x is, (lent y js, (lent_mut q c', (lent_mut r work', tt)))))))))
      → (answer result).code ≡ 0 → Accepted verb a is js c c'

-- The same on a store: the slot of the first input, that of C, and what else the call is given and does not look at.
pub record SlotCall : Type 0 where
  pub first : ℕ
  pub output : ℕ
  pub second : ℕ
  pub mask : ℕ
  pub work : ℕ

abbrev pub slot_call : Verb → List ℕ → List ℕ → SlotCall → StoreCall
slot_call verb is js x =
    operate plainly verb
    (record { first = x.first; second = x.second; mask = x.mask; output = x.output }) is js x.work

pub record ReadBack : Type 3 where
  -- `calls::operate` meets its contract, a caller learns what that says, and has nothing to show; for the store,
  -- `histories` says so
  pub met : {M : Type 1} → operate_statement.statement M
  pub known : KnownAs 6 operate_kinds.ps operate_kinds.r operate_reads.Ghost operate_reads.requires
      operate_reads.ensures operate_reads.Asked operate_reads.Learnt
  pub free : (κs : Lfts 6) (a b m is js : Bor (List ℕ)) (c w : MutBor (List ℕ)) (o : Options) (verb : Verb)
      → operate_reads.Asked κs (o, (verb, (a, (b, (m, (is, (js, (c, (w, tt)))))))))
  -- A into C at the lists, then the listed places of C into D: D's grid is A's
  pub lent_back : {a c c' d d' is js : List ℕ} → Accepted Assign a is js c c' → Accepted Extract c' is js d d'
      → Same (grid_of d') (grid_of a)
  -- on a store: the extract reads the slot that the assign wrote, and D may be any slot, also A's or C's own
  pub store_back : {s s'' is js : List ℕ} (x y : SlotCall) {r r' : Reply} → y.first ≡ x.output
      → Runs s (slot_call Assign is js x ∷ slot_call Extract is js y ∷ []) (r ∷ r' ∷ []) s''
      → code_of r ≡ 0 → code_of r' ≡ 0 → Same (grid_at (model_of s'') y.output) (grid_at (model_of s) x.first)
