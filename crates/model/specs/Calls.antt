-- The calls on a store, with all their arguments, "but of a buffer lent to work in only the length", and the effect of
-- each (document 01, "The shelf" and "When the clerk turns a call away").
use Rattle.std.specs.Prelude.{ℕ, cond, not, List, [], ◌∷◌, ◌++◌, leb, ltb, eqb, None, Some, is_some}
use Rattle.conditions.specs.Tests.{◌and◌}
use Rattle.limits.specs.Limits.{slot_count, max_rows, max_cols, min_stack_words}
use Rattle.limits.specs.Ranges.{in_range}
use Rattle.answers.specs.Refusals.{
  index_out_of_bounds,
  invalid_shape,
  insufficient_space,
  invalid_store,
  empty_slot,
  unknown_operator,
  workspace_too_short,
  too_many_entries,
  invalid_formula,
  accepted,
}
use Rattle.answers.specs.Reads.{found_answer}
use Rattle.answers.specs.Numbers.{number_answer}
use Rattle.grid.specs.Grid.{Grid, empty_grid}
use Rattle.grid.specs.Position.{entry_at}
use Rattle.grid.specs.Revision.{updating, making}
use Rattle.grid.specs.Update.{with_cell}
use Rattle.operations.specs.declared.Call.{Call}
use Rattle.operations.specs.Calls.{has_second, call_final}
use Rattle.call_codes.specs.declared.Options.{Options}
use Rattle.call_codes.specs.declared.Verb.{Verb}
use Rattle.call_codes.specs.Decoding.{monoid_of, binary_of, decoded}
use Rattle.operator_codes.specs.Codes.{monoid_numbered, binary_numbered}
use Rattle.formula_texts.specs.Reader.{accepted as inLanguage}
use Rattle.formula_values.specs.Values.{Value, value_code, value_grid}
use Rattle.reductions.specs.Reductions.{grid_total}
use Rattle.refusals.specs.Cases.{Case, given, number_cases, agreement_cases, output_cases}
use Rattle.model.specs.declared.Roles.{Roles}
use Rattle.model.specs.Model.{vacant, Model, slot_of, is_vacant, grid_at, needed_with}
use Rattle.model.specs.Formulas.{text_value, names_vacant}
use Rattle.model.specs.Effects.{
  writing,
  reading,
  totalling,
  wrote,
  found,
  totalled,
  keeps,
  puts,
  Effect,
  putting_grid,
}

-- ---- the calls

-- "the six operations naming places for A, B, mask and C" and document 02's "giving sheets", as it is asked for: its
-- numbers and slots as they come
pub record OperationCall : Type 0 where
  pub options : Options
  pub verb : Verb
  pub named : Roles
  pub is : List ℕ
  pub js : List ℕ
  pub work : ℕ

-- document 02, A8: a formula over the slots, whose result "replaces the target place"; "the wall is given the text too"
pub record FormulaCall : Type 0 where
  pub target : ℕ
  pub monoid : ℕ
  pub op : ℕ
  pub text : List ℕ
  pub stack : ℕ

-- "Calls: lay (what was there goes), drop, set a cell, clear a cell, read a cell, and the six operations"; document 02,
-- A4: "all are shelf calls too"; A14: "Both .. are shelf calls"; A8: "Demand 3 includes these calls"
pub data StoreCall : Type 0 where
  new_empty : (slot rows cols : ℕ) → StoreCall
  drop_slot : (slot : ℕ) → StoreCall
  set_cell : (slot i j value : ℕ) → StoreCall
  clear_cell : (slot i j : ℕ) → StoreCall
  read_cell : (slot i j : ℕ) → StoreCall
  operation : OperationCall → StoreCall
  reduce_slot : (slot monoid : ℕ) → StoreCall
  formula : FormulaCall → StoreCall

-- an operation by all that its function is given
abbrev pub operate : Options → Verb → Roles → List ℕ → List ℕ → ℕ → StoreCall
operate o verb named is js work =
    operation (record { options = o; verb = verb; named = named; is = is; js = js; work = work })

-- a formula by all that its function is given
abbrev pub formula_into : (target monoid op : ℕ) → List ℕ → ℕ → StoreCall
formula_into k monoid op text stack =
    formula (record { target = k; monoid = monoid; op = op; text = text; stack = stack })

-- ---- the refusals of a slot, a grid and a cell

-- "for it 12 means a place above 7"
abbrev pub no_slot : ℕ → Case
no_slot k = given invalid_store (leb slot_count k)

-- 13: "a place that must hold a sheet is empty"
abbrev pub no_grid : Model → ℕ → Case
no_grid m k = given empty_slot (is_vacant (slot_of m k))

-- 2: "no such .. monoid"
abbrev pub no_monoid : ℕ → Case
no_monoid number = given unknown_operator (not (is_some (monoid_numbered number)))

-- 7: "row or column past .. the sheet named"
abbrev pub no_cell : Grid → ℕ → ℕ → Case
no_cell g i j = given index_out_of_bounds (not (ltb i g.rows and ltb j g.cols))

-- of a call that names a cell
abbrev pub cell_cases : Model → ℕ → ℕ → ℕ → List Case
cell_cases m k i j = no_slot k ∷ no_grid m k ∷ no_cell (grid_at m k) i j ∷ []

-- 11: "8 plus the sizes of all grids, as they would be after the call, is more than the shelf's length"
abbrev pub no_room : ℕ → Model → ℕ → Grid → Case
no_room n m k g = given insufficient_space (ltb n (needed_with m k g))

-- 10 and 11 of a grid that is put into slot k
abbrev pub fit_cases : ℕ → Model → ℕ → Grid → List Case
fit_cases n m k g = output_cases g (needed_with m k g) n

-- ---- an operation

-- its numbers decoded: what is computed, the slots, the index lists and the length of the workspace
pub record Operate : Type 0 where
  pub call : Call
  pub roles : Roles
  pub is : List ℕ
  pub js : List ℕ
  pub work : ℕ

-- Where an operation has no second input or no mask, the slot of a role that it has stands for it: nothing that is named
-- for a role that the call lacks is looked at.
abbrev pub roles_of : Call → Roles → Roles
roles_of call named = record {
  first = named.first;
  second = cond (has_second call.operation) named.second named.first;
  mask = cond call.has_mask named.mask named.output;
  output = named.output;
}

abbrev pub operate_of : OperationCall → Operate
operate_of x = record {
  call = decoded x.options x.verb;
  roles = roles_of (decoded x.options x.verb) x.named;
  is = x.is;
  js = x.js;
  work = x.work;
}

-- "gives each cell of C what T and the write-back say of the grids before the call"
abbrev pub operated : Model → Operate → Grid
operated m o =
    call_final o.call (grid_at m o.roles.first) (grid_at m o.roles.second) (grid_at m o.roles.mask)
    (grid_at m o.roles.output) o.is o.js

-- a test of the slot in each role
abbrev pub role_cases : (ℕ → Case) → Roles → List Case
role_cases test r = test r.first ∷ test r.second ∷ test r.mask ∷ test r.output ∷ []

-- 7 to 9
abbrev pub agreements_of : Model → Operate → List Case
agreements_of m o =
    agreement_cases o.call (grid_at m o.roles.first) (grid_at m o.roles.second) (grid_at m o.roles.mask)
    (grid_at m o.roles.output) o.is o.js o.work

-- "on the shelf 12 is looked at first and 13 comes between 2 and 7"
abbrev pub operation_cases : ℕ → Model → Operate → List Case
operation_cases n m o =
    role_cases no_slot o.roles
    ++ (number_cases o.call
    ++ (role_cases (no_grid m) o.roles
    ++ (agreements_of m o ++ fit_cases n m o.roles.output (operated m o))))

abbrev pub operation_effect : Operate → Effect
operation_effect o = putting_grid updating o.roles.output (λ m. operated m o) (λ n m. operation_cases n m o)

-- ---- a formula

-- what its text is worth
abbrev pub formula_on : Model → FormulaCall → Value
formula_on m x =
    text_value (monoid_of (monoid_numbered x.monoid)) (binary_of (binary_numbered x.op)) m x.text

-- 2: "One semiring is named"
abbrev pub no_semiring : ℕ → ℕ → Case
no_semiring monoid op =
    given unknown_operator (not (is_some (monoid_numbered monoid) and is_some (binary_numbered op)))

-- "the first failing step's 8 or 10"
abbrev pub step_cases : Value → List Case
step_cases v =
    given invalid_shape (eqb (value_code v) invalid_shape) ∷ given too_many_entries (eqb (value_code v) too_many_entries) ∷ []

-- "Refuse 14 if the text isn't in this language, after 12 and 2, then 13 for an empty place read, then 9, then the first
-- failing step's 8 or 10 .., then 11."
abbrev pub formula_cases : ℕ → Model → FormulaCall → List Case
formula_cases n m x =
    no_slot x.target
    ∷ no_semiring x.monoid x.op
    ∷ given invalid_formula (not (inLanguage x.text))
    ∷ given empty_slot (names_vacant m x.text)
    ∷ given workspace_too_short (ltb x.stack min_stack_words)
    ∷ (step_cases (formula_on m x) ++ (no_room n m x.target (value_grid (formula_on m x)) ∷ []))

-- ---- every call

-- set "puts the value into the named cell", and clear "leaves none there"
abbrev pub with_value : Model → ℕ → ℕ → ℕ → ℕ → Grid
with_value m k i j v = with_cell (grid_at m k) i j (Some v)

abbrev pub without_value : Model → ℕ → ℕ → ℕ → Grid
without_value m k i j = with_cell (grid_at m k) i j None

-- 12, and 8: "rows or columns outside 1 to 512" (A6: 1,000), of an empty matrix for slot k
abbrev pub shape_cases : ℕ → ℕ → ℕ → List Case
shape_cases k r c = no_slot k ∷ given invalid_shape (not (in_range max_rows r and in_range max_cols c)) ∷ []

-- of a reduction to a number: 12, 2, 13
abbrev pub total_cases : Model → ℕ → ℕ → List Case
total_cases m k number = no_slot k ∷ no_monoid number ∷ no_grid m k ∷ []

unfoldable pub effect : StoreCall → Effect
-- lay "puts a grid of the given shape without values where it is told, whatever was there"; A12: "Laying starts at 0"
effect (new_empty k r c) =
    putting_grid making k (λ m. empty_grid r c) (λ n m. shape_cases k r c ++ (no_room n m k (empty_grid r c) ∷ []))
-- drop "empties the place", and "answers 0 and 0"
effect (drop_slot k) = record {
  kind = writing;
  cases = λ n m. no_slot k ∷ [];
  change = λ m. puts k vacant;
  answer = λ m. wrote (accepted 0);
}
-- A12: "Each accepted call that writes into a sheet adds one to that sheet's revision, even where no cell changes"
effect (set_cell k i j v) =
    putting_grid updating k (λ m. with_value m k i j v) (λ n m. cell_cases m k i j ++ fit_cases n m k (with_value m k i j v))
effect (clear_cell k i j) = putting_grid updating k (λ m. without_value m k i j) (λ n m. cell_cases m k i j)
-- "read changes nothing. .. Read answers present with the value, or absent."; A11: it "counts present cells in row order"
effect (read_cell k i j) = record {
  kind = reading;
  cases = λ n m. cell_cases m k i j;
  change = λ m. keeps;
  answer = λ m. found (found_answer (entry_at (grid_at m k) i j));
}
effect (operation x) = operation_effect (operate_of x)
-- document 02, A4: "a whole sheet into one number"; "this returns 0 and the number"
effect (reduce_slot k number) = record {
  kind = totalling;
  cases = λ n m. total_cases m k number;
  change = λ m. keeps;
  answer = λ m. totalled (number_answer (grid_total (monoid_of (monoid_numbered number)) (grid_at m k)));
}
-- document 02, A8: "The result replaces the target place, empty or not"; A12: "Sheets made by recipes .. start at 0"
effect (formula x) = putting_grid making x.target (λ m. value_grid (formula_on m x)) (λ n m. formula_cases n m x)
