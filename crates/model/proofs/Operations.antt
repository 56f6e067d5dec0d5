-- An operation on models that agree: the same refusal and, where there is none, final Cs that agree; and what fits fits
-- afterwards.
use Prim.Native.Nat.{ℕ}
use native.Mathlib.Omega.{arith}
use mathlib.Core.Path.{◌≡◌, refl, sym, ap, ◌∙◌}
use mathlib.Core.Bool.{Bool, false, not}
use mathlib.Core.List.{List, [], ◌∷◌, ◌++◌}
use lib.Dec.{ltb}
use borrow.Author.Tests.{not-false}
use Rattle.limits.specs.Sizes.{workspace_words}
use Rattle.answers.specs.Refusals.{index_out_of_bounds, invalid_shape, workspace_too_short}
use Rattle.grid.specs.Grid.{Same}
use Rattle.operations.specs.Calls.{indexes_valid, shapes_agree, call_final}
use Rattle.operations.proofs.Same.{indexes_same, shapes_same, final_same}
use Rattle.refusals.specs.Cases.{Case, given, first_applying, number_cases}
use Rattle.refusals.proofs.Cases.{later, applying_after, applying_none, applying_tail}
use Rattle.refusals.proofs.Codes.{Coded, coded_append, numbers_coded, agreements_coded, outputs_coded}
use Rattle.model.specs.declared.Roles.{Roles}
use Rattle.model.specs.Model.{holding, Model, slot_of, put, is_vacant, grid_at, needed_with}
use Rattle.model.specs.Calls.{
  Operate,
  no_slot,
  no_grid,
  fit_cases,
  operated,
  role_cases,
  agreements_of,
  operation_cases,
}
use Rattle.model.proofs.Alike.{Alike, grid_same, no_grid_lem, fit_same}
use Rattle.model.proofs.Fitting.{Fitting, shaped_fits}

abbrev refusal : ℕ → Model → Operate → ℕ
refusal n m o = first_applying (operation_cases n m o)

-- ---- the cases of an operation, from each group on
module _ (n : ℕ) (m : Model) (o : Operate) where
  abbrev fits : List Case
  fits = fit_cases n m o.roles.output (operated m o)

  abbrev vacancies : List Case
  vacancies = role_cases (no_grid m) o.roles

  abbrev from_vacancies : List Case
  from_vacancies = vacancies ++ (agreements_of m o ++ fits)

  -- where none applies, none of each group does
  record NoneOf : Type 0 where
    pub vacant : first_applying vacancies ≡ 0
    pub agrees : first_applying (agreements_of m o) ≡ 0
    pub fit : first_applying fits ≡ 0

  none_of : refusal n m o ≡ 0 → NoneOf
  none_of z =
      let t₁ =
      applying_tail (role_cases no_slot o.roles) (number_cases o.call ++ from_vacancies)
      (refl, (refl, (refl, (refl, tt)))) z in
      let t₂ = applying_tail (number_cases o.call) from_vacancies (refl, (refl, tt)) t₁ in
      let t₃ = applying_tail vacancies (agreements_of m o ++ fits) (refl, (refl, (refl, (refl, tt)))) t₂ in
      record {
        vacant = applying_none vacancies (agreements_of m o ++ fits) (refl, (refl, (refl, (refl, tt)))) t₂;
        agrees = applying_none (agreements_of m o) fits (refl, (refl, (refl, tt))) t₃;
        fit = applying_tail (agreements_of m o) fits (refl, (refl, (refl, tt))) t₃;
      }

  -- every case has a code
  roles_coded : (test : ℕ → Case) (r : Roles) → ((k : ℕ) → Coded (test k ∷ [])) → Coded (role_cases test r)
  roles_coded test r h = ((h r.first).0, ((h r.second).0, ((h r.mask).0, ((h r.output).0, tt))))

  pub operation_coded : Coded (operation_cases n m o)
  operation_coded =
      let a =
      agreements_coded o.call (grid_at m o.roles.first) (grid_at m o.roles.second) (grid_at m o.roles.mask)
      (grid_at m o.roles.output) o.is o.js o.work in
      let f = outputs_coded (operated m o) (needed_with m o.roles.output (operated m o)) n in
      coded_append (role_cases no_slot o.roles) (number_cases o.call ++ from_vacancies)
      (roles_coded no_slot o.roles (λ k. (omega arith, tt)))
      (coded_append (number_cases o.call) from_vacancies (numbers_coded o.call)
      (coded_append vacancies (agreements_of m o ++ fits) (roles_coded (no_grid m) o.roles (λ k. (omega arith, tt)))
      (coded_append (agreements_of m o) fits a f)))

  -- what fits fits afterwards
  pub operation_fits : (v : ℕ) → Fitting n m → refusal n m o ≡ 0
      → Fitting n (put m o.roles.output (holding v (operated m o)))
  unfolding call_final
  operation_fits v h z =
      let none = none_of z in
      let v₁ = later (is_vacant (slot_of m o.roles.first)) 13 _ refl none.vacant in
      let v₂ = later (is_vacant (slot_of m o.roles.second)) 13 _ refl v₁.rest in
      let v₃ = later (is_vacant (slot_of m o.roles.mask)) 13 _ refl v₂.rest in
      let v₄ = later (is_vacant (slot_of m o.roles.output)) 13 0 refl v₃.rest in
      shaped_fits n m h o.roles.output (operated m o) v₄.here refl refl v none.fit

-- ---- on models that agree
module _ (n : ℕ) (m m' : Model) (a : Alike m m') (o : Operate) where
  abbrev indexes : Model → Bool
  indexes x =
      indexes_valid o.call (grid_at x o.roles.first) (grid_at x o.roles.second) (grid_at x o.roles.output)
      o.is o.js

  abbrev shapes : Model → Bool
  shapes x =
      shapes_agree o.call (grid_at x o.roles.first) (grid_at x o.roles.second) (grid_at x o.roles.mask)
      (grid_at x o.roles.output) o.is o.js

  abbrev by : Bool → Bool → List Case
  by x y =
      given index_out_of_bounds (not x)
      ∷ given invalid_shape (not y)
      ∷ given workspace_too_short (ltb o.work workspace_words)
      ∷ []

  abbrev same : (k : ℕ) → Same (grid_at m k) (grid_at m' k)
  same = grid_same n m m' a

  -- 7 to 9
  agreements_same : agreements_of m o ≡ agreements_of m' o
  agreements_same =
      let first = same o.roles.first in
      let second = same o.roles.second in
      let mask = same o.roles.mask in
      let output = same o.roles.output in
      ap (λ (x : Bool). by x (shapes m))
      (indexes_same o.call _ _ _ _ _ _ _ _ o.is o.js first second mask output)
      ∙ ap (by (indexes m')) (shapes_same o.call _ _ _ _ _ _ _ _ o.is o.js first second mask output)

  -- the final C, where 7 and 8 do not apply
  final_agrees : first_applying (agreements_of m' o) ≡ 0 → Same (operated m o) (operated m' o)
  final_agrees z =
      let h₇ = later _ 7 _ refl z in
      let h₈ = later _ 8 _ refl h₇.rest in
      final_same o.call _ _ _ _ _ _ _ _ o.is o.js (same o.roles.first) (same o.roles.second)
      (same o.roles.mask) (same o.roles.output) (not-false _ h₇.here) (not-false _ h₈.here)

  -- 13
  vacancies_same : vacancies n m o ≡ vacancies n m' o
  vacancies_same =
      let e = no_grid_lem n m m' a o.roles.first in
      let f = no_grid_lem n m m' a o.roles.second in
      let g = no_grid_lem n m m' a o.roles.mask in
      let h = no_grid_lem n m m' a o.roles.output in
      cc

  abbrev from : List Case → List Case → ℕ
  from xs ys = first_applying (role_cases no_slot o.roles ++ (number_cases o.call ++ (xs ++ ys)))

  -- the cases with the slots and the agreement of the second model, and the room of either
  abbrev agreed : Model → List Case
  agreed x = agreements_of m' o ++ fits n x o

  abbrev held : Model → List Case
  held x = vacancies n m' o ++ agreed x

  pub operation_same : refusal n m o ≡ refusal n m' o
  operation_same =
      ap (λ (xs : List Case). from xs (agreements_of m o ++ fits n m o)) vacancies_same
      ∙ ap (λ (ys : List Case). from (vacancies n m' o) (ys ++ fits n m o)) agreements_same
      ∙ applying_after (role_cases no_slot o.roles) (number_cases o.call ++ held m) (number_cases o.call ++ held m')
      (λ z. applying_after (number_cases o.call) (held m) (held m')
      (λ y. applying_after (vacancies n m' o) (agreed m) (agreed m')
      (λ x. applying_after (agreements_of m' o) (fits n m o) (fits n m' o)
      (λ w. ap first_applying
      (fit_same n m m' a o.roles.output (operated m o) (operated m' o) (final_agrees w))))))

  pub operated_same : refusal n m o ≡ 0 → Same (operated m o) (operated m' o)
  operated_same z = final_agrees (none_of n m' o (sym operation_same ∙ z)).agrees
