-- The calls on a store as functions: what each tells a caller, by its own contract and by name. `Reads.Learnt` of a
-- function is what a caller learns when it returns, `Reads.Asked` what it has to show, and `Statement.statement` says that
-- the code returns, does nothing undefined and ends as its contract says.
use Rattle.std.specs.Prelude.{ℕ, ◌≡◌, List, length, replicate, Result}
use contract.Lifetimes.{Lfts}
use Rattle.std.specs.Borrow.{Bor, MutBor}
use borrow.Fn.Picked.{KnownAs}
use Rattle.answers.specs.declared.Refusal.{Refusal}
use Rattle.answers.specs.Results.{answer, cell_answer, total_answer}
use Rattle.grid.specs.declared.EntryAt.{EntryAt}
use Rattle.words.specs.Lent.{Address, lent, lent_mut}
use Rattle.call_codes.specs.declared.Options.{Options}
use Rattle.call_codes.specs.declared.Verb.{Verb}
use Rattle.model.specs.declared.Roles.{Roles}
use Rattle.model.specs.Effects.{Reply, wrote, found, totalled}
use Rattle.model.specs.Calls.{
  StoreCall,
  new_empty,
  drop_slot,
  set_cell,
  clear_cell,
  read_cell,
  operate,
  reduce_slot,
  formula_into,
}
use Rattle.store_cells.proofs.new_empty.Reads as new_empty_reads
use Rattle.store_cells.proofs.new_empty.Statement as new_empty_statement
use Rattle.store_cells.proofs.new_empty.Kinds as new_empty_kinds
use Rattle.store_cells.proofs.drop_slot.Reads as drop_slot_reads
use Rattle.store_cells.proofs.drop_slot.Statement as drop_slot_statement
use Rattle.store_cells.proofs.drop_slot.Kinds as drop_slot_kinds
use Rattle.store_cells.proofs.set_cell.Reads as set_cell_reads
use Rattle.store_cells.proofs.set_cell.Statement as set_cell_statement
use Rattle.store_cells.proofs.set_cell.Kinds as set_cell_kinds
use Rattle.store_cells.proofs.clear_cell.Reads as clear_cell_reads
use Rattle.store_cells.proofs.clear_cell.Statement as clear_cell_statement
use Rattle.store_cells.proofs.clear_cell.Kinds as clear_cell_kinds
use Rattle.store_cells.proofs.read_cell.Reads as read_cell_reads
use Rattle.store_cells.proofs.read_cell.Statement as read_cell_statement
use Rattle.store_cells.proofs.read_cell.Kinds as read_cell_kinds
use Rattle.store_calls.proofs.operate.Reads as operate_reads
use Rattle.store_calls.proofs.operate.Statement as operate_statement
use Rattle.store_calls.proofs.operate.Kinds as operate_kinds
use Rattle.store_reduce.proofs.reduce.Reads as reduce_reads
use Rattle.store_reduce.proofs.reduce.Statement as reduce_statement
use Rattle.store_reduce.proofs.reduce.Kinds as reduce_kinds
use Rattle.store_formulas.proofs.formula.Reads as formula_reads
use Rattle.store_formulas.proofs.formula.Statement as formula_statement
use Rattle.store_formulas.proofs.formula.Kinds as formula_kinds

-- One call on the words s: its reply and the words s' after it are what the contract of its function tells a caller.
-- Index lists, and the words that a read is lent, are borrowed by `&` and stay. "Each call brings index lists and a work
-- buffer of its own where it has them, with any words in them."
pub data Step : List ℕ → StoreCall → Reply → List ℕ → Type 0 where
  new_empty_step : {s s' : List ℕ} {k r c : ℕ} (result : Result ℕ Refusal) (p : Address) (κs : Lfts 1)
      → new_empty_reads.Learnt κs (lent_mut p s, (k, (r, (c, tt)))) result (lent_mut p s', (k, (r, (c, tt))))
      → Step s (new_empty k r c) (wrote (answer result)) s'
  drop_slot_step : {s s' : List ℕ} {k : ℕ} (result : Result ℕ Refusal) (p : Address) (κs : Lfts 1)
      → drop_slot_reads.Learnt κs (lent_mut p s, (k, tt)) result (lent_mut p s', (k, tt))
      → Step s (drop_slot k) (wrote (answer result)) s'
  set_cell_step : {s s' : List ℕ} {k i j v : ℕ} (result : Result ℕ Refusal) (p : Address) (κs : Lfts 1)
      → set_cell_reads.Learnt κs (lent_mut p s, (k, (i, (j, (v, tt))))) result (lent_mut p s', (k, (i, (j, (v, tt)))))
      → Step s (set_cell k i j v) (wrote (answer result)) s'
  clear_cell_step : {s s' : List ℕ} {k i j : ℕ} (result : Result ℕ Refusal) (p : Address) (κs : Lfts 1)
      → clear_cell_reads.Learnt κs (lent_mut p s, (k, (i, (j, tt)))) result (lent_mut p s', (k, (i, (j, tt))))
      → Step s (clear_cell k i j) (wrote (answer result)) s'
  read_cell_step : {s : List ℕ} {k i j : ℕ} (result : Result EntryAt Refusal) (p : Address) (κs : Lfts 1)
      → read_cell_reads.Learnt κs (lent p s, (k, (i, (j, tt)))) result (lent p s, (k, (i, (j, tt))))
      → Step s (read_cell k i j) (found (cell_answer result)) s
  operate_step : {s s' : List ℕ} (w w' : List ℕ) {o : Options} {verb : Verb} {named : Roles} {is js : List ℕ}
      (result : Result ℕ Refusal) (p q x y : Address) (κs : Lfts 4)
      → operate_reads.Learnt κs (lent_mut p s, (o, (verb, (named, (lent x is, (lent y js, (lent_mut q w, tt))))))) result
      (lent_mut p s', (o, (verb, (named, (lent x is, (lent y js, (lent_mut q w', tt)))))))
      → Step s (operate o verb named is js (length w)) (wrote (answer result)) s'
  reduce_step : {s : List ℕ} {k monoid : ℕ} (result : Result ℕ Refusal) (p : Address) (κs : Lfts 1)
      → reduce_reads.Learnt κs (lent p s, (k, (monoid, tt))) result (lent p s, (k, (monoid, tt)))
      → Step s (reduce_slot k monoid) (totalled (total_answer result)) s
  formula_step : {s s' : List ℕ} (w w' : List ℕ) {k monoid op : ℕ} {text : List ℕ} (result : Result ℕ Refusal) (p q x : Address)
      (κs : Lfts 3)
      → formula_reads.Learnt κs (lent_mut p s, (k, (monoid, (op, (lent x text, (lent_mut q w, tt)))))) result
      (lent_mut p s', (k, (monoid, (op, (lent x text, (lent_mut q w', tt))))))
      → Step s (formula_into k monoid op text (length w)) (wrote (answer result)) s'

-- each function's code meets its contract
pub record Met : Type 3 where
  pub new_empty : {M : Type 1} → new_empty_statement.statement M
  pub drop_slot : {M : Type 1} → drop_slot_statement.statement M
  pub set_cell : {M : Type 1} → set_cell_statement.statement M
  pub clear_cell : {M : Type 1} → clear_cell_statement.statement M
  pub read_cell : {M : Type 1} → read_cell_statement.statement M
  pub operate : {M : Type 1} → operate_statement.statement M
  pub reduce : {M : Type 1} → reduce_statement.statement M
  pub formula : {M : Type 1} → formula_statement.statement M

-- and what a caller learns follows from what is proved of the code: the lemma that is generated for each function
pub record Known : Type 3 where
  pub new_empty : KnownAs 1 new_empty_kinds.ps new_empty_kinds.r new_empty_reads.Ghost
      new_empty_reads.requires new_empty_reads.ensures
      new_empty_reads.Asked new_empty_reads.Learnt
  pub drop_slot : KnownAs 1 drop_slot_kinds.ps drop_slot_kinds.r drop_slot_reads.Ghost
      drop_slot_reads.requires drop_slot_reads.ensures
      drop_slot_reads.Asked drop_slot_reads.Learnt
  pub set_cell : KnownAs 1 set_cell_kinds.ps set_cell_kinds.r set_cell_reads.Ghost
      set_cell_reads.requires set_cell_reads.ensures
      set_cell_reads.Asked set_cell_reads.Learnt
  pub clear_cell : KnownAs 1 clear_cell_kinds.ps clear_cell_kinds.r clear_cell_reads.Ghost
      clear_cell_reads.requires clear_cell_reads.ensures
      clear_cell_reads.Asked clear_cell_reads.Learnt
  pub read_cell : KnownAs 1 read_cell_kinds.ps read_cell_kinds.r read_cell_reads.Ghost
      read_cell_reads.requires read_cell_reads.ensures
      read_cell_reads.Asked read_cell_reads.Learnt
  pub operate : KnownAs 4 operate_kinds.ps operate_kinds.r operate_reads.Ghost
      operate_reads.requires operate_reads.ensures
      operate_reads.Asked operate_reads.Learnt
  pub reduce : KnownAs 1 reduce_kinds.ps reduce_kinds.r reduce_reads.Ghost
      reduce_reads.requires reduce_reads.ensures
      reduce_reads.Asked reduce_reads.Learnt
  pub formula : KnownAs 3 formula_kinds.ps formula_kinds.r formula_reads.Ghost
      formula_reads.requires formula_reads.ensures
      formula_reads.Asked formula_reads.Learnt

-- a caller has nothing to show
pub record Free : Type 3 where
  pub new_empty : (κs : Lfts 1) (s : MutBor (List ℕ)) (k r c : ℕ) → new_empty_reads.Asked κs (s, (k, (r, (c, tt))))
  pub drop_slot : (κs : Lfts 1) (s : MutBor (List ℕ)) (k : ℕ) → drop_slot_reads.Asked κs (s, (k, tt))
  pub set_cell : (κs : Lfts 1) (s : MutBor (List ℕ)) (k i j v : ℕ) → set_cell_reads.Asked κs (s, (k, (i, (j, (v, tt)))))
  pub clear_cell : (κs : Lfts 1) (s : MutBor (List ℕ)) (k i j : ℕ) → clear_cell_reads.Asked κs (s, (k, (i, (j, tt))))
  pub read_cell : (κs : Lfts 1) (s : Bor (List ℕ)) (k i j : ℕ) → read_cell_reads.Asked κs (s, (k, (i, (j, tt))))
  pub operate : (κs : Lfts 4) (s w : MutBor (List ℕ)) (is js : Bor (List ℕ)) (o : Options) (verb : Verb) (named : Roles)
      → operate_reads.Asked κs (s, (o, (verb, (named, (is, (js, (w, tt)))))))
  pub reduce : (κs : Lfts 1) (s : Bor (List ℕ)) (k monoid : ℕ) → reduce_reads.Asked κs (s, (k, (monoid, tt)))
  pub formula : (κs : Lfts 3) (s : MutBor (List ℕ)) (text : Bor (List ℕ)) (w : MutBor (List ℕ)) (k monoid op : ℕ)
      → formula_reads.Asked κs (s, (k, (monoid, (op, (text, (w, tt))))))

-- "The work buffer is all zeros over its whole length after every call that has one"
abbrev pub Cleared : Type 0
Cleared = (κs : Lfts 4) (p q x y : Address) (s s' w w' : List ℕ) (o : Options) (verb : Verb) (named : Roles)
    (is js : List ℕ) (result : Result ℕ Refusal)
    → operate_reads.Learnt κs (lent_mut p s, (o, (verb, (named, (lent x is, (lent y js, (lent_mut q w, tt))))))) result
    (lent_mut p s', (o, (verb, (named, (lent x is, (lent y js, (lent_mut q w', tt)))))))
    → w' ≡ replicate (length w) 0

-- "The stack buffer is lent by the host, .. zeros after every call"
abbrev pub StackCleared : Type 0
StackCleared = (κs : Lfts 3) (p q x : Address) (s s' w w' text : List ℕ) (k monoid op : ℕ) (result : Result ℕ Refusal)
    → formula_reads.Learnt κs (lent_mut p s, (k, (monoid, (op, (lent x text, (lent_mut q w, tt)))))) result
    (lent_mut p s', (k, (monoid, (op, (lent x text, (lent_mut q w', tt))))))
    → w' ≡ replicate (length w) 0
