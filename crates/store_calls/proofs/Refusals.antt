-- The refusals of an operation in their order, as the code reaches them.
use Prim.Native.Nat.{ℕ}
use native.Mathlib.Decide.{ℕ_discrete}
use mathlib.Core.Path.{◌≡◌, refl, sym, ap, ◌∙◌}
use mathlib.Core.Bool.{Bool, cond}
use mathlib.Core.List.{List, ◌++◌}
use borrow.Author.Tests.{eq-eqb, ne_eqb}
use Rattle.std.specs.Prelude.{Result, Ok, Err}
use Rattle.std.specs.Result.{result_and}
use Rattle.answers.specs.declared.Refusal.{Refusal}
use Rattle.answers.specs.Results.{number, code_of}
use Rattle.answers.proofs.Numbers.{number_not_0}
use Rattle.operations.specs.declared.Call.{Call}
use Rattle.refusals.specs.Cases.{Case, first_applying, number_cases, numbers_refusal, first_of}
use Rattle.refusals.proofs.Cases.{Numbered, applying_first, applying_rest, applying_none}
use Rattle.slots.specs.Facts.{Store}
use Rattle.model.specs.declared.Roles.{Roles}
use Rattle.model.specs.Model.{Model}
use Rattle.model.specs.Calls.{Operate, no_slot, no_grid, role_cases, agreements_of}
use Rattle.store_encoding.specs.Stores.{model_of}
use Rattle.store_calls.specs.Attempts.{operation_refusal, roles_refusal, Holding, outputs_of}
use Rattle.store_calls.proofs.Roles.{in_store, holding_roles}

-- some cases and then others, as two numbers
applying_append : (xs ys : List Case) → Numbered xs
    → first_applying (xs ++ ys) ≡ first_of (first_applying xs) (first_applying ys)
applying_append xs ys m = go (ℕ_discrete (first_applying xs) 0)
  where
    go : Dec (first_applying xs ≡ 0) → first_applying (xs ++ ys) ≡ first_of (first_applying xs) (first_applying ys)
    go (yes z) =
        applying_rest xs ys m z
        ∙ sym (ap (λ (b : Bool). cond b (first_applying ys) (first_applying xs)) (eq-eqb (first_applying xs) 0 z))
    go (no n) =
        sym (applying_first xs ys (first_applying xs) refl n)
        ∙ sym (ap (λ (b : Bool). cond b (first_applying ys) (first_applying xs)) (ne_eqb (first_applying xs) 0 n))

-- the first of two refusals, as a number
pub code_and : (r s : Result (Unit {0}) Refusal) → code_of (result_and r s) ≡ first_of (code_of r) (code_of s)
code_and (Ok x) s = refl
code_and (Err e) s =
    sym (ap (λ (b : Bool). cond b (code_of s) (number e)) (ne_eqb (number e) 0 (number_not_0 e)))

-- ---- 12, 1 and 2, and 13

slots_numbered : (r : Roles) → Numbered (role_cases no_slot r)
slots_numbered r = (refl, (refl, (refl, (refl, tt))))

numbers_numbered : (call : Call) → Numbered (number_cases call)
numbers_numbered call = (refl, (refl, tt))

module _ (m : Model) (call : Call) (r : Roles) where
  abbrev vacancies : List Case
  vacancies = role_cases (no_grid m) r

  -- 12
  pub slot_refused : (n : ℕ) → n ≡ first_applying (role_cases no_slot r) → (n ≡ 0 → ⊥) → n ≡ roles_refusal m call r
  unfolding roles_refusal
  slot_refused n e h = applying_first (role_cases no_slot r) (number_cases call ++ vacancies) n e h

  module _ (z : first_applying (role_cases no_slot r) ≡ 0) where
    -- past it the later cases decide
    slots_passed : roles_refusal m call r ≡ first_applying (number_cases call ++ vacancies)
    unfolding roles_refusal
    slots_passed = applying_rest (role_cases no_slot r) (number_cases call ++ vacancies) (slots_numbered r) z

    -- 1 and 2, and then 13
    pub numbers_first : (number vacancy code : ℕ) → number ≡ numbers_refusal call → vacancy ≡ first_applying vacancies
        → code ≡ first_of number vacancy → code ≡ roles_refusal m call r
    unfolding numbers_refusal
    numbers_first number vacancy code e f g =
        g ∙ ap (λ (n : ℕ). first_of n vacancy) e ∙ ap (first_of (first_applying (number_cases call))) f
        ∙ sym (slots_passed ∙ applying_append (number_cases call) vacancies (numbers_numbered call))

  -- where none of all applies, none of each does
  record NoneOf : Type 0 where
    pub slots : first_applying (role_cases no_slot r) ≡ 0
    pub vacancy : first_applying vacancies ≡ 0

  none_of : roles_refusal m call r ≡ 0 → NoneOf
  unfolding roles_refusal
  none_of z =
      let a = applying_none (role_cases no_slot r) (number_cases call ++ vacancies) (slots_numbered r) z in
      let b = sym (slots_passed a) ∙ z in
      let c = applying_none (number_cases call) vacancies (numbers_numbered call) b in
      record { slots = a; vacancy = sym (applying_rest (number_cases call) vacancies (numbers_numbered call) c) ∙ b }

-- then every role has a slot with a matrix
pub holding_of : (s : List ℕ) (call : Call) (r : Roles) → Store s → roles_refusal (model_of s) call r ≡ 0 → Holding s r
holding_of s call r h z =
    let n = none_of (model_of s) call r z in
    holding_roles s r h (in_store r n.slots) n.vacancy

-- ---- all refusals

module _ (m : Model) (o : Operate) where
  abbrev role_parts : List Case
  role_parts = role_cases no_slot o.roles ++ (number_cases o.call ++ role_cases (no_grid m) o.roles)

  roles_numbered : Numbered role_parts
  roles_numbered = (refl, (refl, (refl, (refl, (refl, (refl, (refl, (refl, (refl, (refl, tt))))))))))

  -- 12, 1 and 2, and 13
  pub roles_first : (n code : ℕ) → code ≡ roles_refusal m o.call o.roles → (code ≡ 0 → ⊥)
      → code ≡ operation_refusal n m o
  unfolding operation_refusal roles_refusal
  roles_first n code e h = applying_first role_parts (agreements_of m o ++ outputs_of m o n) code e h

  -- past them, 7 to 11
  pub roles_passed : (n : ℕ) → roles_refusal m o.call o.roles ≡ 0
      → operation_refusal n m o ≡ first_applying (agreements_of m o ++ outputs_of m o n)
  unfolding operation_refusal roles_refusal
  roles_passed n z = applying_rest role_parts (agreements_of m o ++ outputs_of m o n) roles_numbered z

  -- 7 to 9
  pub agreement_first : (n code : ℕ) → code ≡ first_applying (agreements_of m o) → (code ≡ 0 → ⊥)
      → code ≡ first_applying (agreements_of m o ++ outputs_of m o n)
  agreement_first n code e h = applying_first (agreements_of m o) (outputs_of m o n) code e h

  -- past them, 10 and 11
  pub agreement_passed : (n : ℕ) → first_applying (agreements_of m o) ≡ 0
      → first_applying (agreements_of m o ++ outputs_of m o n) ≡ first_applying (outputs_of m o n)
  agreement_passed n z = applying_rest (agreements_of m o) (outputs_of m o n) (refl, (refl, (refl, tt))) z
