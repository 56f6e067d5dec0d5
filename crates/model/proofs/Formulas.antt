-- A formula on models that agree: the same refusal, and results that agree; and what fits fits afterwards.
use Rattle.std.proofs.Common.{is_some}
use Prim.Native.Nat.{ℕ, ◌-◌}
use native.Mathlib.Omega.{arith}
use mathlib.Core.Path.{◌≡◌, refl, sym, ap, ◌∙◌}
use mathlib.Core.Bool.{Bool, true, false, cond, not, false≢true}
use mathlib.Core.List.{List, [], ◌∷◌, ◌++◌}
use lib.Dec.{leb, ltb, eqb}
use borrow.Author.Tests.{ltb-false}
use Rattle.conditions.specs.Tests.{◌and◌}
use Rattle.limits.specs.Limits.{slot_count, min_stack_words}
use Rattle.answers.specs.Refusals.{invalid_shape, too_many_entries, empty_slot, workspace_too_short, invalid_formula}
use Rattle.operators.specs.declared.BinaryOp.{BinaryOp}
use Rattle.operators.specs.declared.Monoid.{Monoid}
use Rattle.grid.specs.Grid.{Same, empty_grid}
use Rattle.grid.specs.Size.{Within}
use Rattle.grid.proofs.Same.{same_refl}
use Rattle.refusals.specs.Cases.{Case, given, first_applying}
use Rattle.refusals.proofs.Cases.{later}
use Rattle.refusals.proofs.Codes.{Coded}
use Rattle.call_codes.specs.Decoding.{monoid_of, binary_of}
use Rattle.operator_codes.specs.Codes.{monoid_numbered, binary_numbered}
use Rattle.formula_texts.specs.Reader.{Outcome, read_as, unreadable, reading, accepted}
use Rattle.formula_values.specs.Values.{
  Value,
  worth,
  fails,
  disagree,
  overfull,
  value_code,
  value_grid,
}
use Rattle.formula_values.proofs.Same.{SameValue, same_code, value_same}
use Rattle.formula_values.proofs.Bounds.{WithinValue, value_within}
use Rattle.model.specs.Model.{Slot, vacant, holding, Model, slot_of, put, needed_with}
use Rattle.model.specs.Formulas.{slot_value, read_value, vacant_byte, names_vacant}
use Rattle.model.specs.Calls.{FormulaCall, formula_on, no_slot, no_semiring, step_cases, no_room, formula_cases}
use Rattle.model.proofs.Alike.{AlikeSlots, Alike, alike_at, alike_vacant, room_same}
use Rattle.model.proofs.Fitting.{WithinSlot, Fitting, put_fits}

-- ---- values
-- alike slots are worth the same
slot_same : (x y : Slot) → AlikeSlots x y → SameValue (slot_value x) (slot_value y)
slot_same vacant vacant a = refl
slot_same vacant (holding u h) a = absurd a
slot_same (holding v g) vacant a = absurd a
slot_same (holding v g) (holding u h) a = a.1

-- a slot within the limits is worth a grid within them
slot_within : (x : Slot) → WithinSlot x → WithinValue (slot_value x)
slot_within vacant w = tt
slot_within (holding v g) w = w

-- values that agree have grids that agree
grids_same : (v w : Value) → SameValue v w → Same (value_grid v) (value_grid w)
grids_same (worth g) (worth h) s = s
grids_same (worth g) (fails y) s = absurd s
grids_same (fails x) (worth h) s = absurd s
grids_same (fails x) (fails y) s = same_refl (empty_grid 0 0)

-- where neither 8 nor 10 applies the value is a grid
grid_within : (v : Value) → WithinValue v → eqb (value_code v) invalid_shape ≡ false
    → eqb (value_code v) too_many_entries ≡ false → Within (value_grid v)
grid_within (worth g) w e f = w
grid_within (fails disagree) w e f = absurd (false≢true (sym e))
grid_within (fails overfull) w e f = absurd (false≢true (sym f))

module _ (monoid : Monoid) (op : BinaryOp) where
  -- a text on alike models
  read_same : (m m' : Model) → Alike m m' → (o : Outcome)
      → SameValue (read_value monoid op (λ n. slot_value (slot_of m n)) o)
      (read_value monoid op (λ n. slot_value (slot_of m' n)) o)
  read_same m m' a (read_as f) =
      value_same monoid op (λ n. slot_value (slot_of m n)) (λ n. slot_value (slot_of m' n))
      (λ n. slot_same (slot_of m n) (slot_of m' n) (alike_at m m' n a)) f
  read_same m m' a unreadable = refl

  -- a text on a model within the limits
  read_within : (m : Model) → ((k : ℕ) → WithinSlot (slot_of m k)) → (o : Outcome)
      → WithinValue (read_value monoid op (λ n. slot_value (slot_of m n)) o)
  read_within m h (read_as f) =
      value_within monoid op (λ n. slot_value (slot_of m n)) (λ n. slot_within (slot_of m n) (h n)) f
  read_within m h unreadable = tt

-- ---- 13: alike models have the same slots empty
vacant_same : (m m' : Model) → Alike m m' → (text : List ℕ) → names_vacant m text ≡ names_vacant m' text
unfolding names_vacant
vacant_same m m' a [] = refl
vacant_same m m' a (c ∷ x) =
    let e = alike_vacant (slot_of m (c - 48)) (slot_of m' (c - 48)) (alike_at m m' (c - 48) a) in
    ap (λ (b : Bool). cond ((leb 48 c and leb c 55) and b) true (names_vacant m x)) e
    ∙ ap (λ (b : Bool). cond (vacant_byte m' c) true b) (vacant_same m m' a x)

-- ---- the call
-- its cases, by what depends on the model
abbrev cases_by : FormulaCall → Bool → List Case → Case → List Case
cases_by x empty steps room =
    no_slot x.target
    ∷ no_semiring x.monoid x.op
    ∷ given invalid_formula (not (accepted x.text))
    ∷ given empty_slot empty
    ∷ given workspace_too_short (ltb x.stack min_stack_words)
    ∷ (steps ++ (room ∷ []))

module _ (n : ℕ) (m m' : Model) (a : Alike m m') (x : FormulaCall) where
  -- the values agree
  worth_same : SameValue (formula_on m x) (formula_on m' x)
  worth_same =
      read_same (monoid_of (monoid_numbered x.monoid)) (binary_of (binary_numbered x.op)) m m' a (reading x.text)

  -- so do the results; for `Effects`
  pub formula_grid_same : first_applying (formula_cases n m x) ≡ 0
      → Same (value_grid (formula_on m x)) (value_grid (formula_on m' x))
  formula_grid_same z = grids_same (formula_on m x) (formula_on m' x) worth_same

  -- and the refusal is one
  pub formula_same : first_applying (formula_cases n m x) ≡ first_applying (formula_cases n m' x)
  formula_same =
      let v = formula_on m x in
      let v' = formula_on m' x in
      ap (λ (b : Bool). first_applying (cases_by x b (step_cases v) (no_room n m x.target (value_grid v))))
      (vacant_same m m' a x.text)
      ∙ ap (λ (c : ℕ). first_applying (cases_by x (names_vacant m' x.text)
      (given invalid_shape (eqb c invalid_shape) ∷ given too_many_entries (eqb c too_many_entries) ∷ [])
      (no_room n m x.target (value_grid v)))) (same_code v v' worth_same)
      ∙ ap (λ (c : Case). first_applying (cases_by x (names_vacant m' x.text) (step_cases v') c))
      (room_same n m m' a x.target (value_grid v) (value_grid v') (grids_same v v' worth_same))

-- each of its refusals has the number of a code
pub formula_coded : (n : ℕ) (m : Model) (x : FormulaCall) → Coded (formula_cases n m x)
formula_coded n m x = (
  omega arith,
  (
    omega arith,
    (
      omega arith,
      (omega arith, (omega arith, (omega arith, (omega arith, (omega arith, tt))))),
    ),
  ),
)

-- after an accepted formula the model fits its words again
pub formula_fits : (n : ℕ) (m : Model) (x : FormulaCall) → Fitting n m → first_applying (formula_cases n m x) ≡ 0
    → Fitting n (put m x.target (holding 0 (value_grid (formula_on m x))))
formula_fits n m x h z =
    let v = formula_on m x in
    let h₁ = later (leb slot_count x.target) 12 _ refl z in
    let h₂ =
    later (not (is_some (monoid_numbered x.monoid) and is_some (binary_numbered x.op))) 2 _ refl
    h₁.rest in
    let h₃ = later (not (accepted x.text)) 14 _ refl h₂.rest in
    let h₄ = later (names_vacant m x.text) 13 _ refl h₃.rest in
    let h₅ = later (ltb x.stack min_stack_words) 9 _ refl h₄.rest in
    let h₆ = later (eqb (value_code v) invalid_shape) 8 _ refl h₅.rest in
    let h₇ = later (eqb (value_code v) too_many_entries) 10 _ refl h₆.rest in
    let h₈ = later (ltb n (needed_with m x.target (value_grid v))) 11 0 refl h₇.rest in
    let w =
    read_within (monoid_of (monoid_numbered x.monoid)) (binary_of (binary_numbered x.op)) m h.within
    (reading x.text) in
    put_fits n m h x.target (holding 0 (value_grid v)) (grid_within v w h₆.here h₇.here)
    (ltb-false _ _ h₈.here)
