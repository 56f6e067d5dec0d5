-- A value depends only on the cells of the grids within their shapes.
use Prim.Native.Nat.{ℕ}
use native.Mathlib.Omega.{arith}
use mathlib.Core.Path.{◌≡◌, refl, ap}
use mathlib.Core.Bool.{Bool, true, false, cond}
use mathlib.Core.List.{[]}
use lib.Dec.{leb}
use Rattle.limits.specs.Limits.{max_entries}
use Rattle.operators.specs.declared.BinaryOp.{BinaryOp}
use Rattle.operators.specs.declared.Monoid.{Monoid}
use Rattle.grid.specs.Grid.{Grid, Same}
use Rattle.grid.proofs.Same.{same_count}
use Rattle.operations.specs.declared.Operation.{Operation}
use Rattle.operations.specs.declared.Shapes.{Shapes}
use Rattle.operations.specs.GridOperations.{needs_of, shapes_of}
use Rattle.operations.specs.Calls.{has_lists, inputs_agree}
use Rattle.operations.proofs.Results.{shapes_of_same, cell_same}
use Rattle.formula_texts.specs.Trees.{Formula}
use Rattle.formula_texts.proofs.Related.{related}
use Rattle.formula_values.specs.Values.{
  Failure,
  Value,
  worth,
  fails,
  value_code,
  step_grid,
  step_agrees,
  step_fits,
  outcome,
  step,
  sum_of,
  product_of,
  formula_value,
}

-- grids that agree, or one failure
abbrev pub SameValue : Value → Value → Type 0
SameValue (worth g) (worth h) = Same g h
SameValue (worth g) (fails y) = ⊥
SameValue (fails x) (worth h) = ⊥
SameValue (fails x) (fails y) = x ≡ y

-- they have one code
pub same_code : (v w : Value) → SameValue v w → value_code v ≡ value_code w
same_code (worth g) (worth h) s = refl
same_code (worth g) (fails y) s = absurd s
same_code (fails x) (worth h) s = absurd s
same_code (fails x) (fails y) s = ap (λ (z : Failure). value_code (fails z)) s

module _ (op : Operation) (n : has_lists op ≡ false) (a a' b b' : Grid) (s : Same a a') (u : Same b b') where
  -- a step sees the same shapes
  shapes_are : shapes_of op a b a [] [] ≡ shapes_of op a' b' a' [] []
  shapes_are = shapes_of_same a a' b b' a a' [] [] s s op (λ h. u)

  -- 8 of a step
  pub agrees_same : step_agrees op a b ≡ step_agrees op a' b'
  agrees_same = ap (λ (x : Shapes). inputs_agree x (needs_of op x)) shapes_are

  -- its grid
  pub grid_same : step_agrees op a' b' ≡ true → Same (step_grid op a b) (step_grid op a' b')
  grid_same g = record {
    rows = ap (λ (x : Shapes). (needs_of op x).result.rows) shapes_are;
    cols = ap (λ (x : Shapes). (needs_of op x).result.cols) shapes_are;
    cell = cell_same a a' b b' a a' [] [] s s op (λ h. u) g (rw n refl);
  }

  -- its value
  pub outcome_same : SameValue (outcome (step_agrees op a b) (step_fits op a b) (step_grid op a b))
      (outcome (step_agrees op a' b') (step_fits op a' b') (step_grid op a' b'))
  outcome_same = rw agrees_same (by (step_agrees op a' b') refl)
    where
      fits : (x y : Bool) (g h : Grid) → x ≡ y → Same g h → SameValue (outcome true x g) (outcome true y h)
      fits true true g h e t = t
      fits true false g h e t = absurd (omega (arith, ap {B = ℕ} (λ (z : Bool). cond z 0 1) e))
      fits false true g h e t = absurd (omega (arith, ap {B = ℕ} (λ (z : Bool). cond z 0 1) e))
      fits false false g h e t = refl

      by : (x : Bool) → step_agrees op a' b' ≡ x
          → SameValue (outcome x (step_fits op a b) (step_grid op a b))
          (outcome x (step_fits op a' b') (step_grid op a' b'))
      by false e = refl
      by true e =
          fits (step_fits op a b) (step_fits op a' b') (step_grid op a b) (step_grid op a' b')
          (ap (λ (k : ℕ). leb k max_entries) (same_count (step_grid op a b) (step_grid op a' b') (grid_same e)))
          (grid_same e)

-- one step
pub step_same : (op : Operation) → has_lists op ≡ false → (v w v' w' : Value) → SameValue v v' → SameValue w w'
    → SameValue (step op v w) (step op v' w')
step_same op n (worth a) (worth b) (worth a') (worth b') s u = outcome_same op n a a' b b' s u
step_same op n (worth a) (worth b) (worth a') (fails y) s u = absurd u
step_same op n (worth a) (fails x) (worth a') (worth b') s u = absurd u
step_same op n (worth a) (fails x) (worth a') (fails y) s u = u
step_same op n (worth a) w (fails y) w' s u = absurd s
step_same op n (fails x) w (worth a') w' s u = absurd s
step_same op n (fails x) w (fails y) w' s u = s

-- a formula
pub value_same : (monoid : Monoid) (op : BinaryOp) (slot slot' : ℕ → Value)
    → ((n : ℕ) → SameValue (slot n) (slot' n)) → (f : Formula)
    → SameValue (formula_value monoid op slot f) (formula_value monoid op slot' f)
value_same monoid op slot slot' h f =
    related SameValue slot (step (sum_of monoid)) (step (product_of monoid op)) slot' (step (sum_of monoid))
    (step (product_of monoid op)) h (λ a b a' b' r q. step_same (sum_of monoid) refl a b a' b' r q)
    (λ a b a' b' r q. step_same (product_of monoid op) refl a b a' b' r q) f
