-- The functions: what the contract of each tells of a step, for any words, and a step of every call. A new function has a
-- line in each.
use Prim.Native.Nat.{ℕ}
use mathlib.Core.Path.{◌≡◌, refl, sym, ap, ◌∙◌}
use mathlib.Core.Bool.{Bool, true, false, cond}
use mathlib.Core.List.{List}
use lib.ListN.{length, replicate, length-replicate}
use lib.Dec.{eqb}
use contract.Lifetimes.{Lfts}
use Rattle.answers.specs.Results.{answer}
use Rattle.slots.specs.Valid.{store_valid}
use Rattle.slots.proofs.Facts.{store_facts}
use Rattle.model.specs.Model.{Model}
use Rattle.model.specs.Effects.{
  Reply,
  wrote,
  writing,
  refusal_of,
  next_of,
}
use Rattle.model.specs.Calls.{
  OperationCall,
  FormulaCall,
  StoreCall,
  new_empty,
  drop_slot,
  set_cell,
  clear_cell,
  read_cell,
  operation,
  operate,
  reduce_slot,
  formula,
  formula_into,
  effect,
}
use Rattle.histories.proofs.Results.{Given, given_on}
use Rattle.store_encoding.specs.Writing.{model_writing}
use Rattle.store_encoding.specs.Stores.{model_of, effect_words, reply_on, words_after, Performed}
use Rattle.store_encoding.proofs.Held.{model_written}
use Rattle.words.specs.Lent.{Address}
use Rattle.histories.specs.Functions.{
  Step,
  new_empty_step,
  drop_slot_step,
  set_cell_step,
  clear_cell_step,
  read_cell_step,
  operate_step,
  reduce_step,
  formula_step,
  Met,
  Known,
  Free,
  Cleared,
  StackCleared,
}
use Rattle.histories.specs.Promise.{Possible}
use Rattle.store_cells.proofs.new_empty.Met as new_empty_met
use Rattle.store_cells.proofs.new_empty.Reads as new_empty_reads
use Rattle.store_cells.proofs.drop_slot.Met as drop_slot_met
use Rattle.store_cells.proofs.drop_slot.Reads as drop_slot_reads
use Rattle.store_cells.proofs.set_cell.Met as set_cell_met
use Rattle.store_cells.proofs.set_cell.Reads as set_cell_reads
use Rattle.store_cells.proofs.clear_cell.Met as clear_cell_met
use Rattle.store_cells.proofs.clear_cell.Reads as clear_cell_reads
use Rattle.store_cells.proofs.read_cell.Met as read_cell_met
use Rattle.store_cells.proofs.read_cell.Reads as read_cell_reads
use Rattle.store_calls.proofs.operate.Met as operate_met
use Rattle.store_calls.proofs.operate.Reads as operate_reads
use Rattle.store_reduce.proofs.reduce.Met as reduce_met
use Rattle.store_reduce.proofs.reduce.Reads as reduce_reads
use Rattle.store_formulas.proofs.formula.Met as formula_met
use Rattle.store_formulas.proofs.formula.Reads as formula_reads

pub met : Met
met = record {
  new_empty = new_empty_met.met;
  drop_slot = drop_slot_met.met;
  set_cell = set_cell_met.met;
  clear_cell = clear_cell_met.met;
  read_cell = read_cell_met.met;
  operate = operate_met.met;
  reduce = reduce_met.met;
  formula = formula_met.met;
}

pub known : Known
known = record {
  new_empty = new_empty_reads.known;
  drop_slot = drop_slot_reads.known;
  set_cell = set_cell_reads.known;
  clear_cell = clear_cell_reads.known;
  read_cell = read_cell_reads.known;
  operate = operate_reads.known;
  reduce = reduce_reads.known;
  formula = formula_reads.known;
}

pub free : Free
free = record {
  new_empty = λ κs s k r c. tt;
  drop_slot = λ κs s k. tt;
  set_cell = λ κs s k i j v. tt;
  clear_cell = λ κs s k i j. tt;
  read_cell = λ κs s k i j. tt;
  operate = λ κs s w is js o verb named. tt;
  reduce = λ κs s k monoid. tt;
  formula = λ κs s text w k monoid op. tt;
}

pub cleared : Cleared
cleared κs p q x y s s' w w' o verb named is js answer t = t.1

pub stack_cleared : StackCleared
stack_cleared κs p q x s s' w w' text k monoid op answer t = t.1

-- ---- what each tells

-- a read changes nothing of the model, refused or not; nor does a reduction to a number
unchanged : (m : Model) (b : Bool) → cond b m m ≡ m
unchanged m true = refl
unchanged m false = refl

read_keeps : (n : ℕ) (m : Model) (k i j : ℕ) → next_of (effect (read_cell k i j)) n m ≡ m
unfolding effect next_of
read_keeps n m k i j = unchanged m (eqb (refusal_of (effect (read_cell k i j)) n m) 0)

total_keeps : (n : ℕ) (m : Model) (k monoid : ℕ) → next_of (effect (reduce_slot k monoid)) n m ≡ m
unfolding effect next_of
total_keeps n m k monoid = unchanged m (eqb (refusal_of (effect (reduce_slot k monoid)) n m) 0)

-- and leaves the words as they are, which are the writing of their model
keeping : (s : List ℕ) (c : StoreCall) (r : Reply) → next_of (effect c) (length s) (model_of s) ≡ model_of s
    → r ≡ reply_on s c → Performed s c r s
unfolding effect_words
keeping s c r k e = record { answer_is = e; words_are = kept (store_valid s) refl }
  where
    kept : (b : Bool) → store_valid s ≡ b
        → s ≡ cond b (model_writing (length s) (next_of (effect c) (length s) (model_of s))) s
    kept true h = sym (ap (model_writing (length s)) k ∙ model_written s (store_facts s h))
    kept false h = refl

pub read_performed : (s : List ℕ) (k i j : ℕ) (r : Reply) → r ≡ reply_on s (read_cell k i j)
    → Performed s (read_cell k i j) r s
read_performed s k i j r e = keeping s (read_cell k i j) r (read_keeps (length s) (model_of s) k i j) e

pub total_performed : (s : List ℕ) (k monoid : ℕ) (r : Reply) → r ≡ reply_on s (reduce_slot k monoid)
    → Performed s (reduce_slot k monoid) r s
total_performed s k monoid r e = keeping s (reduce_slot k monoid) r (total_keeps (length s) (model_of s) k monoid) e

pub told : {s s' : List ℕ} {c : StoreCall} {r : Reply} → Step s c r s' → Performed s c r s'
told (new_empty_step x p κs t) = t
told (drop_slot_step x p κs t) = t
told (set_cell_step x p κs t) = t
told (clear_cell_step x p κs t) = t
told (read_cell_step x p κs t) = read_performed _ _ _ _ _ t
told (operate_step w w' r p q x y κs t) = t.0
told (reduce_step x p κs t) = total_performed _ _ _ _ t
told (formula_step w w' r p q x κs t) = t.0

-- ---- a step of every call: the answer and the words that the contracts name

-- an address
abbrev somewhere : Address
somewhere = record { pointer = (0, 0); name = 0 }

-- a call that writes
writes : (s : List ℕ) (c : StoreCall) (g : Given writing (reply_on s c))
    → Performed s c (wrote (answer g.0)) (words_after s c)
writes s c g = record { answer_is = g.1; words_are = refl }

-- a step is enough, whatever it answers and leaves
stepped : {s s' : List ℕ} {c : StoreCall} {r : Reply} → Step s c r s' → Possible s c
stepped h = record { answer = _; after = _; step = h }

-- an operation, with a workspace of zeros
abbrev zeros : ℕ → List ℕ
zeros n = replicate n 0

operates : (κs : Lfts 4) (s : List ℕ) (x : OperationCall) → Possible s (operation x)
unfolding effect
operates κs s x =
    let c = operate x.options x.verb x.named x.is x.js (length (zeros x.work)) in
    rw (← (length-replicate {A = ℕ} x.work 0))
    (stepped
    (operate_step (zeros x.work) (zeros (length (zeros x.work))) (given_on s c).0 somewhere somewhere somewhere somewhere κs
    (writes s c (given_on s c), refl)))

-- a formula, with a stack of zeros
formulas : (κs : Lfts 3) (s : List ℕ) (x : FormulaCall) → Possible s (formula x)
unfolding effect
formulas κs s x =
    let c = formula_into x.target x.monoid x.op x.text (length (zeros x.stack)) in
    rw (← (length-replicate {A = ℕ} x.stack 0))
    (stepped
    (formula_step (zeros x.stack) (zeros (length (zeros x.stack))) (given_on s c).0 somewhere somewhere somewhere κs
    (writes s c (given_on s c), refl)))

pub possible : Lfts 1 → Lfts 4 → (s : List ℕ) (c : StoreCall) → Possible s c
unfolding effect
possible κ₁ κ₄ s (new_empty k r c) =
    let g = given_on s (new_empty k r c) in stepped (new_empty_step g.0 somewhere κ₁ (writes s (new_empty k r c) g))
possible κ₁ κ₄ s (drop_slot k) =
    let g = given_on s (drop_slot k) in stepped (drop_slot_step g.0 somewhere κ₁ (writes s (drop_slot k) g))
possible κ₁ κ₄ s (set_cell k i j v) =
    let g = given_on s (set_cell k i j v) in stepped (set_cell_step g.0 somewhere κ₁ (writes s (set_cell k i j v) g))
possible κ₁ κ₄ s (clear_cell k i j) =
    let g = given_on s (clear_cell k i j) in stepped (clear_cell_step g.0 somewhere κ₁ (writes s (clear_cell k i j) g))
possible κ₁ κ₄ s (read_cell k i j) =
    let g = given_on s (read_cell k i j) in stepped (read_cell_step g.0 somewhere κ₁ g.1)
possible κ₁ κ₄ s (operation x) = operates κ₄ s x
possible κ₁ κ₄ s (reduce_slot k monoid) =
    let g = given_on s (reduce_slot k monoid) in stepped (reduce_step g.0 somewhere κ₁ g.1)
possible κ₁ κ₄ s (formula x) = formulas κ₄.1 s x
