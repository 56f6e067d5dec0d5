-- The calls that hosts make on a store: the exported functions, by their own contracts and by name, as in Functions.antt.
-- An answer is one number. Where the toolchain's own lemma or a contract's own clause is the proof, it stands here.
use Rattle.std.specs.Prelude.{ℕ, ◌≡◌, List, [], length, replicate}
use contract.Lifetimes.{Lfts}
use borrow.Fn.Picked.{KnownAs}
use Rattle.call_codes.specs.declared.Verb.TheVariants as verbs
use Rattle.model.specs.Calls.{
  StoreCall,
  new_empty,
  drop_slot,
  set_cell,
  clear_cell,
  read_cell,
  operate,
  reduce_slot,
  formula_into,
}
use Rattle.exports.specs.Exported.{options_of, roles_named, StorePerformed, StoreRead, StoreTotalled}
use Rattle.exports.proofs.ostrubel_store_new_empty.Reads as new_empty_reads
use Rattle.exports.proofs.ostrubel_store_new_empty.Statement as new_empty_statement
use Rattle.exports.proofs.ostrubel_store_new_empty.Kinds as new_empty_kinds
use Rattle.exports.proofs.ostrubel_store_new_empty.Met as new_empty_met
use Rattle.exports.proofs.ostrubel_store_drop.Reads as drop_reads
use Rattle.exports.proofs.ostrubel_store_drop.Statement as drop_statement
use Rattle.exports.proofs.ostrubel_store_drop.Kinds as drop_kinds
use Rattle.exports.proofs.ostrubel_store_drop.Met as drop_met
use Rattle.exports.proofs.ostrubel_store_set_cell.Reads as set_cell_reads
use Rattle.exports.proofs.ostrubel_store_set_cell.Statement as set_cell_statement
use Rattle.exports.proofs.ostrubel_store_set_cell.Kinds as set_cell_kinds
use Rattle.exports.proofs.ostrubel_store_set_cell.Met as set_cell_met
use Rattle.exports.proofs.ostrubel_store_clear_cell.Reads as clear_cell_reads
use Rattle.exports.proofs.ostrubel_store_clear_cell.Statement as clear_cell_statement
use Rattle.exports.proofs.ostrubel_store_clear_cell.Kinds as clear_cell_kinds
use Rattle.exports.proofs.ostrubel_store_clear_cell.Met as clear_cell_met
use Rattle.exports.proofs.ostrubel_store_read_cell.Reads as read_cell_reads
use Rattle.exports.proofs.ostrubel_store_read_cell.Statement as read_cell_statement
use Rattle.exports.proofs.ostrubel_store_read_cell.Kinds as read_cell_kinds
use Rattle.exports.proofs.ostrubel_store_read_cell.Met as read_cell_met
use Rattle.exports.proofs.ostrubel_store_mxm.Reads as mxm_reads
use Rattle.exports.proofs.ostrubel_store_mxm.Statement as mxm_statement
use Rattle.exports.proofs.ostrubel_store_mxm.Kinds as mxm_kinds
use Rattle.exports.proofs.ostrubel_store_mxm.Met as mxm_met
use Rattle.exports.proofs.ostrubel_store_vxm.Reads as vxm_reads
use Rattle.exports.proofs.ostrubel_store_vxm.Statement as vxm_statement
use Rattle.exports.proofs.ostrubel_store_vxm.Kinds as vxm_kinds
use Rattle.exports.proofs.ostrubel_store_vxm.Met as vxm_met
use Rattle.exports.proofs.ostrubel_store_ewise_mult.Reads as ewise_mult_reads
use Rattle.exports.proofs.ostrubel_store_ewise_mult.Statement as ewise_mult_statement
use Rattle.exports.proofs.ostrubel_store_ewise_mult.Kinds as ewise_mult_kinds
use Rattle.exports.proofs.ostrubel_store_ewise_mult.Met as ewise_mult_met
use Rattle.exports.proofs.ostrubel_store_ewise_add.Reads as ewise_add_reads
use Rattle.exports.proofs.ostrubel_store_ewise_add.Statement as ewise_add_statement
use Rattle.exports.proofs.ostrubel_store_ewise_add.Kinds as ewise_add_kinds
use Rattle.exports.proofs.ostrubel_store_ewise_add.Met as ewise_add_met
use Rattle.exports.proofs.ostrubel_store_apply.Reads as apply_reads
use Rattle.exports.proofs.ostrubel_store_apply.Statement as apply_statement
use Rattle.exports.proofs.ostrubel_store_apply.Kinds as apply_kinds
use Rattle.exports.proofs.ostrubel_store_apply.Met as apply_met
use Rattle.exports.proofs.ostrubel_store_extract.Reads as extract_reads
use Rattle.exports.proofs.ostrubel_store_extract.Statement as extract_statement
use Rattle.exports.proofs.ostrubel_store_extract.Kinds as extract_kinds
use Rattle.exports.proofs.ostrubel_store_extract.Met as extract_met
use Rattle.exports.proofs.ostrubel_store_select.Reads as select_reads
use Rattle.exports.proofs.ostrubel_store_select.Statement as select_statement
use Rattle.exports.proofs.ostrubel_store_select.Kinds as select_kinds
use Rattle.exports.proofs.ostrubel_store_select.Met as select_met
use Rattle.exports.proofs.ostrubel_store_reduce_rows.Reads as reduce_rows_reads
use Rattle.exports.proofs.ostrubel_store_reduce_rows.Statement as reduce_rows_statement
use Rattle.exports.proofs.ostrubel_store_reduce_rows.Kinds as reduce_rows_kinds
use Rattle.exports.proofs.ostrubel_store_reduce_rows.Met as reduce_rows_met
use Rattle.exports.proofs.ostrubel_store_assign.Reads as assign_reads
use Rattle.exports.proofs.ostrubel_store_assign.Statement as assign_statement
use Rattle.exports.proofs.ostrubel_store_assign.Kinds as assign_kinds
use Rattle.exports.proofs.ostrubel_store_assign.Met as assign_met
use Rattle.exports.proofs.ostrubel_store_kronecker.Reads as kronecker_reads
use Rattle.exports.proofs.ostrubel_store_kronecker.Statement as kronecker_statement
use Rattle.exports.proofs.ostrubel_store_kronecker.Kinds as kronecker_kinds
use Rattle.exports.proofs.ostrubel_store_kronecker.Met as kronecker_met
use Rattle.exports.proofs.ostrubel_store_reduce.Reads as reduce_reads
use Rattle.exports.proofs.ostrubel_store_reduce.Statement as reduce_statement
use Rattle.exports.proofs.ostrubel_store_reduce.Kinds as reduce_kinds
use Rattle.exports.proofs.ostrubel_store_reduce.Met as reduce_met
use Rattle.exports.proofs.ostrubel_store_formula.Reads as formula_reads
use Rattle.exports.proofs.ostrubel_store_formula.Statement as formula_statement
use Rattle.exports.proofs.ostrubel_store_formula.Kinds as formula_kinds
use Rattle.exports.proofs.ostrubel_store_formula.Met as formula_met
use Rattle.words.specs.Lent.{Address, lent, lent_mut}

-- one call of a host on the words s, its answer in one number, and the words after it: what the function's contract tells
pub data HostStep : List ℕ → StoreCall → ℕ → List ℕ → Type 0 where
  new_empty_step : (κs : Lfts 1) (p : Address) {s s' : List ℕ} {k r c answer : ℕ}
      → new_empty_reads.Learnt κs (k, (r, (c, (lent_mut p s, tt)))) answer (k, (r, (c, (lent_mut p s', tt))))
      → HostStep s (new_empty k r c) answer s'
  drop_step : (κs : Lfts 1) (p : Address) {s s' : List ℕ} {k answer : ℕ}
      → drop_reads.Learnt κs (k, (lent_mut p s, tt)) answer (k, (lent_mut p s', tt))
      → HostStep s (drop_slot k) answer s'
  set_cell_step : (κs : Lfts 1) (p : Address) {s s' : List ℕ} {k i j v answer : ℕ}
      → set_cell_reads.Learnt κs (k, (i, (j, (v, (lent_mut p s, tt))))) answer (k, (i, (j, (v, (lent_mut p s', tt)))))
      → HostStep s (set_cell k i j v) answer s'
  clear_cell_step : (κs : Lfts 1) (p : Address) {s s' : List ℕ} {k i j answer : ℕ}
      → clear_cell_reads.Learnt κs (k, (i, (j, (lent_mut p s, tt)))) answer (k, (i, (j, (lent_mut p s', tt))))
      → HostStep s (clear_cell k i j) answer s'
  read_cell_step : (κs : Lfts 1) (p : Address) {s : List ℕ} {k i j answer : ℕ}
      → read_cell_reads.Learnt κs (k, (i, (j, (lent p s, tt)))) answer (k, (i, (j, (lent p s, tt))))
      → HostStep s (read_cell k i j) answer s
  mxm_step : (κs : Lfts 2) (p q : Address) (w w' : List ℕ) {s s' : List ℕ}
      (flags masked accumulated number monoid op a b m c : ℕ) {answer : ℕ}
      → mxm_reads.Learnt κs
      (flags, (masked, (accumulated, (number, (monoid, (op, (a, (b, (m, (c, (lent_mut p s, (lent_mut q w, tt))))))))))))
      answer
      (flags, (masked, (accumulated, (number, (monoid, (op, (a, (b, (m, (c, (lent_mut p s', (lent_mut q w', tt))))))))))))
      → HostStep s
      (operate (options_of flags masked accumulated number) (verbs.Mxm monoid op) (roles_named a b m c) [] [] (length w))
      answer s'
  vxm_step : (κs : Lfts 2) (p q : Address) (w w' : List ℕ) {s s' : List ℕ}
      (flags masked accumulated number monoid op u a m c : ℕ) {answer : ℕ}
      → vxm_reads.Learnt κs
      (flags, (masked, (accumulated, (number, (monoid, (op, (u, (a, (m, (c, (lent_mut p s, (lent_mut q w, tt))))))))))))
      answer
      (flags, (masked, (accumulated, (number, (monoid, (op, (u, (a, (m, (c, (lent_mut p s', (lent_mut q w', tt))))))))))))
      → HostStep s
      (operate (options_of flags masked accumulated number) (verbs.Vxm monoid op) (roles_named u a m c) [] [] (length w))
      answer s'
  ewise_mult_step : (κs : Lfts 2) (p q : Address) (w w' : List ℕ) {s s' : List ℕ}
      (flags masked accumulated number op a b m c : ℕ) {answer : ℕ}
      → ewise_mult_reads.Learnt κs
      (flags, (masked, (accumulated, (number, (op, (a, (b, (m, (c, (lent_mut p s, (lent_mut q w, tt)))))))))))
      answer (flags, (masked, (accumulated, (number, (op, (a, (b, (m, (c, (lent_mut p s', (lent_mut q w', tt)))))))))))
      → HostStep s
      (operate (options_of flags masked accumulated number) (verbs.EwiseMult op) (roles_named a b m c) [] [] (length w))
      answer s'
  ewise_add_step : (κs : Lfts 2) (p q : Address) (w w' : List ℕ) {s s' : List ℕ}
      (flags masked accumulated number op a b m c : ℕ) {answer : ℕ}
      → ewise_add_reads.Learnt κs
      (flags, (masked, (accumulated, (number, (op, (a, (b, (m, (c, (lent_mut p s, (lent_mut q w, tt)))))))))))
      answer (flags, (masked, (accumulated, (number, (op, (a, (b, (m, (c, (lent_mut p s', (lent_mut q w', tt)))))))))))
      → HostStep s
      (operate (options_of flags masked accumulated number) (verbs.EwiseAdd op) (roles_named a b m c) [] [] (length w))
      answer s'
  apply_step : (κs : Lfts 2) (p q : Address) (w w' : List ℕ) {s s' : List ℕ}
      (flags masked accumulated number kind op scalar a m c : ℕ) {answer : ℕ}
      → apply_reads.Learnt κs
      (flags, (masked, (accumulated, (number, (kind, (op, (scalar, (a, (m, (c, (lent_mut p s, (lent_mut q w, tt))))))))))))
      answer
      (flags, (masked, (accumulated, (number, (kind, (op, (scalar, (a, (m, (c, (lent_mut p s', (lent_mut q w', tt))))))))))))
      → HostStep s
      (operate (options_of flags masked accumulated number) (verbs.Apply kind op scalar) (roles_named a a m c) [] [] (length w))
      answer s'
  extract_step : (κs : Lfts 4) (p q x y : Address) (w w' : List ℕ) {s s' : List ℕ} (is js : List ℕ)
      (flags masked accumulated number a m c : ℕ) {answer : ℕ}
      → extract_reads.Learnt κs
      (flags, (masked, (accumulated, (number, (a, (m, (c, (lent_mut p s, (lent x is, (lent y js, (lent_mut q w, tt)))))))))))
      answer
      (flags, (masked, (accumulated, (number, (a, (m, (c, (lent_mut p s', (lent x is, (lent y js, (lent_mut q w', tt)))))))))))
      → HostStep s
      (operate (options_of flags masked accumulated number) verbs.Extract (roles_named a a m c) is js (length w))
      answer s'
  select_step : (κs : Lfts 2) (p q : Address) (w w' : List ℕ) {s s' : List ℕ}
      (flags masked accumulated number op scalar a m c : ℕ) {answer : ℕ}
      → select_reads.Learnt κs
      (flags, (masked, (accumulated, (number, (op, (scalar, (a, (m, (c, (lent_mut p s, (lent_mut q w, tt)))))))))))
      answer (flags, (masked, (accumulated, (number, (op, (scalar, (a, (m, (c, (lent_mut p s', (lent_mut q w', tt)))))))))))
      → HostStep s
      (operate (options_of flags masked accumulated number) (verbs.Select op scalar) (roles_named a a m c) [] [] (length w))
      answer s'
  reduce_rows_step : (κs : Lfts 2) (p q : Address) (w w' : List ℕ) {s s' : List ℕ}
      (flags masked accumulated number monoid a m c : ℕ) {answer : ℕ}
      → reduce_rows_reads.Learnt κs
      (flags, (masked, (accumulated, (number, (monoid, (a, (m, (c, (lent_mut p s, (lent_mut q w, tt))))))))))
      answer (flags, (masked, (accumulated, (number, (monoid, (a, (m, (c, (lent_mut p s', (lent_mut q w', tt))))))))))
      → HostStep s
      (operate (options_of flags masked accumulated number) (verbs.ReduceRows monoid) (roles_named a a m c) [] [] (length w))
      answer s'
  assign_step : (κs : Lfts 4) (p q x y : Address) (w w' : List ℕ) {s s' : List ℕ} (is js : List ℕ)
      (flags masked accumulated number a m c : ℕ) {answer : ℕ}
      → assign_reads.Learnt κs
      (flags, (masked, (accumulated, (number, (a, (m, (c, (lent_mut p s, (lent x is, (lent y js, (lent_mut q w, tt)))))))))))
      answer
      (flags, (masked, (accumulated, (number, (a, (m, (c, (lent_mut p s', (lent x is, (lent y js, (lent_mut q w', tt)))))))))))
      → HostStep s
      (operate (options_of flags masked accumulated number) verbs.Assign (roles_named a a m c) is js (length w))
      answer s'
  kronecker_step : (κs : Lfts 2) (p q : Address) (w w' : List ℕ) {s s' : List ℕ}
      (flags masked accumulated number op a b m c : ℕ) {answer : ℕ}
      → kronecker_reads.Learnt κs
      (flags, (masked, (accumulated, (number, (op, (a, (b, (m, (c, (lent_mut p s, (lent_mut q w, tt)))))))))))
      answer (flags, (masked, (accumulated, (number, (op, (a, (b, (m, (c, (lent_mut p s', (lent_mut q w', tt)))))))))))
      → HostStep s
      (operate (options_of flags masked accumulated number) (verbs.Kronecker op) (roles_named a b m c) [] [] (length w))
      answer s'
  reduce_step : (κs : Lfts 1) (p : Address) {s : List ℕ} {k monoid answer : ℕ}
      → reduce_reads.Learnt κs (k, (monoid, (lent p s, tt))) answer (k, (monoid, (lent p s, tt)))
      → HostStep s (reduce_slot k monoid) answer s
  formula_step : (κs : Lfts 3) (p q x : Address) (w w' : List ℕ) {s s' : List ℕ} (text : List ℕ) (k monoid op : ℕ)
      {answer : ℕ}
      → formula_reads.Learnt κs (k, (monoid, (op, (lent x text, (lent_mut p s, (lent_mut q w, tt)))))) answer
      (k, (monoid, (op, (lent x text, (lent_mut p s', (lent_mut q w', tt))))))
      → HostStep s (formula_into k monoid op text (length w)) answer s'

-- what that is: a call that may write; an operation or a formula, which also leaves its workspace zeros; a read and a
-- reduction to a number, which leave the words
pub data Tells : List ℕ → StoreCall → ℕ → List ℕ → Type 0 where
  wrote : {s s' : List ℕ} {c : StoreCall} {r : ℕ} → StorePerformed s c r s' → Tells s c r s'
  operated : {s s' : List ℕ} {c : StoreCall} {r : ℕ} (w w' : List ℕ) → StorePerformed s c r s'
      → w' ≡ replicate (length w) 0 → Tells s c r s'
  read : {s : List ℕ} {k i j r : ℕ} → StoreRead s (read_cell k i j) r → Tells s (read_cell k i j) r s
  totalled : {s : List ℕ} {k monoid r : ℕ} → StoreTotalled s (reduce_slot k monoid) r → Tells s (reduce_slot k monoid) r s

pub tells : {s s' : List ℕ} {c : StoreCall} {r : ℕ} → HostStep s c r s' → Tells s c r s'
tells (new_empty_step κs p t) = wrote t
tells (drop_step κs p t) = wrote t
tells (set_cell_step κs p t) = wrote t
tells (clear_cell_step κs p t) = wrote t
tells (read_cell_step κs p t) = read t
tells (mxm_step κs p q w w' flags masked accumulated number monoid op a b m c t) = operated w w' t.0 t.1
tells (vxm_step κs p q w w' flags masked accumulated number monoid op u a m c t) = operated w w' t.0 t.1
tells (ewise_mult_step κs p q w w' flags masked accumulated number op a b m c t) = operated w w' t.0 t.1
tells (ewise_add_step κs p q w w' flags masked accumulated number op a b m c t) = operated w w' t.0 t.1
tells (apply_step κs p q w w' flags masked accumulated number kind op scalar a m c t) = operated w w' t.0 t.1
tells (extract_step κs p q x y w w' is js flags masked accumulated number a m c t) = operated w w' t.0 t.1
tells (select_step κs p q w w' flags masked accumulated number op scalar a m c t) = operated w w' t.0 t.1
tells (reduce_rows_step κs p q w w' flags masked accumulated number monoid a m c t) = operated w w' t.0 t.1
tells (assign_step κs p q x y w w' is js flags masked accumulated number a m c t) = operated w w' t.0 t.1
tells (kronecker_step κs p q w w' flags masked accumulated number op a b m c t) = operated w w' t.0 t.1
tells (reduce_step κs p t) = totalled t
tells (formula_step κs p q x w w' text k monoid op t) = operated w w' t.0 t.1

-- of each function: its code meets its contract, what a caller learns follows from that, and a caller has nothing to show
pub record Exported (n : ℕ) {A : Lfts n → Type 0} (statement : Type 1 → Type 2) (asked : (κs : Lfts n) → A κs → Type 0)
    (learnt : Type 2) : Type 3 where
  pub met : {M : Type 1} → statement M
  pub known : learnt
  pub free : (κs : Lfts n) (a : A κs) → asked κs a

pub record HostFunctions : Type 3 where
  pub new_empty : Exported 1 new_empty_statement.statement (λ κs a. new_empty_reads.Asked κs a)
      (KnownAs 1 new_empty_kinds.ps new_empty_kinds.r new_empty_reads.Ghost
      new_empty_reads.requires new_empty_reads.ensures new_empty_reads.Asked
      new_empty_reads.Learnt)
  pub drop : Exported 1 drop_statement.statement (λ κs a. drop_reads.Asked κs a)
      (KnownAs 1 drop_kinds.ps drop_kinds.r drop_reads.Ghost drop_reads.requires drop_reads.ensures drop_reads.Asked
      drop_reads.Learnt)
  pub set_cell : Exported 1 set_cell_statement.statement (λ κs a. set_cell_reads.Asked κs a)
      (KnownAs 1 set_cell_kinds.ps set_cell_kinds.r set_cell_reads.Ghost
      set_cell_reads.requires set_cell_reads.ensures set_cell_reads.Asked
      set_cell_reads.Learnt)
  pub clear_cell : Exported 1 clear_cell_statement.statement (λ κs a. clear_cell_reads.Asked κs a)
      (KnownAs 1 clear_cell_kinds.ps clear_cell_kinds.r clear_cell_reads.Ghost
      clear_cell_reads.requires clear_cell_reads.ensures clear_cell_reads.Asked
      clear_cell_reads.Learnt)
  pub read_cell : Exported 1 read_cell_statement.statement (λ κs a. read_cell_reads.Asked κs a)
      (KnownAs 1 read_cell_kinds.ps read_cell_kinds.r read_cell_reads.Ghost
      read_cell_reads.requires read_cell_reads.ensures read_cell_reads.Asked
      read_cell_reads.Learnt)
  pub mxm : Exported 2 mxm_statement.statement (λ κs a. mxm_reads.Asked κs a)
      (KnownAs 2 mxm_kinds.ps mxm_kinds.r mxm_reads.Ghost mxm_reads.requires mxm_reads.ensures mxm_reads.Asked
      mxm_reads.Learnt)
  pub vxm : Exported 2 vxm_statement.statement (λ κs a. vxm_reads.Asked κs a)
      (KnownAs 2 vxm_kinds.ps vxm_kinds.r vxm_reads.Ghost vxm_reads.requires vxm_reads.ensures vxm_reads.Asked
      vxm_reads.Learnt)
  pub ewise_mult : Exported 2 ewise_mult_statement.statement (λ κs a. ewise_mult_reads.Asked κs a)
      (KnownAs 2 ewise_mult_kinds.ps ewise_mult_kinds.r ewise_mult_reads.Ghost
      ewise_mult_reads.requires ewise_mult_reads.ensures ewise_mult_reads.Asked
      ewise_mult_reads.Learnt)
  pub ewise_add : Exported 2 ewise_add_statement.statement (λ κs a. ewise_add_reads.Asked κs a)
      (KnownAs 2 ewise_add_kinds.ps ewise_add_kinds.r ewise_add_reads.Ghost
      ewise_add_reads.requires ewise_add_reads.ensures ewise_add_reads.Asked
      ewise_add_reads.Learnt)
  pub apply : Exported 2 apply_statement.statement (λ κs a. apply_reads.Asked κs a)
      (KnownAs 2 apply_kinds.ps apply_kinds.r apply_reads.Ghost
      apply_reads.requires apply_reads.ensures apply_reads.Asked
      apply_reads.Learnt)
  pub extract : Exported 4 extract_statement.statement (λ κs a. extract_reads.Asked κs a)
      (KnownAs 4 extract_kinds.ps extract_kinds.r extract_reads.Ghost
      extract_reads.requires extract_reads.ensures extract_reads.Asked
      extract_reads.Learnt)
  pub select : Exported 2 select_statement.statement (λ κs a. select_reads.Asked κs a)
      (KnownAs 2 select_kinds.ps select_kinds.r select_reads.Ghost
      select_reads.requires select_reads.ensures select_reads.Asked
      select_reads.Learnt)
  pub reduce_rows : Exported 2 reduce_rows_statement.statement (λ κs a. reduce_rows_reads.Asked κs a)
      (KnownAs 2 reduce_rows_kinds.ps reduce_rows_kinds.r reduce_rows_reads.Ghost
      reduce_rows_reads.requires reduce_rows_reads.ensures reduce_rows_reads.Asked
      reduce_rows_reads.Learnt)
  pub assign : Exported 4 assign_statement.statement (λ κs a. assign_reads.Asked κs a)
      (KnownAs 4 assign_kinds.ps assign_kinds.r assign_reads.Ghost
      assign_reads.requires assign_reads.ensures assign_reads.Asked
      assign_reads.Learnt)
  pub kronecker : Exported 2 kronecker_statement.statement (λ κs a. kronecker_reads.Asked κs a)
      (KnownAs 2 kronecker_kinds.ps kronecker_kinds.r kronecker_reads.Ghost
      kronecker_reads.requires kronecker_reads.ensures kronecker_reads.Asked
      kronecker_reads.Learnt)
  pub reduce : Exported 1 reduce_statement.statement (λ κs a. reduce_reads.Asked κs a)
      (KnownAs 1 reduce_kinds.ps reduce_kinds.r reduce_reads.Ghost
      reduce_reads.requires reduce_reads.ensures reduce_reads.Asked
      reduce_reads.Learnt)
  pub formula : Exported 3 formula_statement.statement (λ κs a. formula_reads.Asked κs a)
      (KnownAs 3 formula_kinds.ps formula_kinds.r formula_reads.Ghost
      formula_reads.requires formula_reads.ensures formula_reads.Asked
      formula_reads.Learnt)

pub host_functions : HostFunctions
host_functions = record {
  new_empty = record { met = new_empty_met.met; known = new_empty_reads.known; free = λ κs a. tt };
  drop = record { met = drop_met.met; known = drop_reads.known; free = λ κs a. tt };
  set_cell = record { met = set_cell_met.met; known = set_cell_reads.known; free = λ κs a. tt };
  clear_cell = record { met = clear_cell_met.met; known = clear_cell_reads.known; free = λ κs a. tt };
  read_cell = record { met = read_cell_met.met; known = read_cell_reads.known; free = λ κs a. tt };
  mxm = record { met = mxm_met.met; known = mxm_reads.known; free = λ κs a. tt };
  vxm = record { met = vxm_met.met; known = vxm_reads.known; free = λ κs a. tt };
  ewise_mult = record { met = ewise_mult_met.met; known = ewise_mult_reads.known; free = λ κs a. tt };
  ewise_add = record { met = ewise_add_met.met; known = ewise_add_reads.known; free = λ κs a. tt };
  apply = record { met = apply_met.met; known = apply_reads.known; free = λ κs a. tt };
  extract = record { met = extract_met.met; known = extract_reads.known; free = λ κs a. tt };
  select = record { met = select_met.met; known = select_reads.known; free = λ κs a. tt };
  reduce_rows = record { met = reduce_rows_met.met; known = reduce_rows_reads.known; free = λ κs a. tt };
  assign = record { met = assign_met.met; known = assign_reads.known; free = λ κs a. tt };
  kronecker = record { met = kronecker_met.met; known = kronecker_reads.known; free = λ κs a. tt };
  reduce = record { met = reduce_met.met; known = reduce_reads.known; free = λ κs a. tt };
  formula = record { met = formula_met.met; known = formula_reads.known; free = λ κs a. tt };
}
