-- The refusals of a call in their order, as the code reaches them, and what is known where none applies.
use Prim.Native.Nat.{ℕ, ◌≤◌, ◌<◌}
use mathlib.Core.Path.{◌≡◌, refl, sym, ◌∙◌}
use mathlib.Core.List.{List, ◌++◌}
use mathlib.Core.Bool.{Bool, true, false, cond, not, false≢true}
use lib.Dec.{ltb}
use borrow.Author.Tests.{not-false, ltb-false, lt-ltb, le-ltb}
use Rattle.answers.specs.Refusals.{
  invalid_first,
  invalid_second,
  invalid_mask,
  invalid_output,
  index_out_of_bounds,
  invalid_shape,
  workspace_too_short,
}
use Rattle.conditions.specs.Tests.{◌and◌}
use Rattle.grid.specs.Grid.{Grid}
use Rattle.operations.specs.declared.Call.{Call}
use Rattle.operations.specs.declared.Needs.{Needs}
use Rattle.operations.specs.declared.Shapes.{Shapes}
use Rattle.operations.specs.GridOperations.{needs_of, shape_of}
use Rattle.operations.specs.Calls.{has_second, call_shapes, lists_valid, indexes_valid, shapes_meet, shapes_agree}
use Rattle.matrix.specs.Layout.{workspace_words, grid_of}
use Rattle.matrix.specs.Valid.{valid}
use Rattle.matrix.proofs.Facts.{matrix_facts}
use Rattle.refusals.specs.Cases.{Case, number_cases, agreement_cases, numbers_refusal, agreement_refusal}
use Rattle.requests.specs.Refusal.{matrix_cases, matrices_refusal, input_refusal}
use Rattle.requests.specs.Inputs.{Valid, Ready}
use Rattle.refusals.proofs.Cases.{later, applying_first, applying_rest, applying_none, Numbered}

-- 7 to 9 by the tests of lists and of shapes as the code makes them: of shapes, and of what the operation asks for, in
-- variables
pub agreement_tested : (call : Call) (a b m c : Grid) (is js : List ℕ) (work : ℕ) (s : Shapes) (n : Needs)
    → s ≡ call_shapes call a b c is js → n ≡ needs_of call.operation s
    → (code : ℕ) → code ≡ cond (not (lists_valid call.operation n.bounds is js)) index_out_of_bounds
    (cond (not (shapes_meet call s n (shape_of m))) invalid_shape
    (cond (ltb work workspace_words) workspace_too_short 0))
    → code ≡ agreement_refusal call a b m c is js work
unfolding agreement_refusal indexes_valid shapes_agree
agreement_tested call a b m c is js work s n e f code h = rw (f, e) at h

-- what is there is valid
there_valid : (there ok : Bool) → (there and not ok) ≡ false → there ≡ true → ok ≡ true
unfolding ◌and◌
there_valid true ok h t = not-false ok h
there_valid false ok h t = absurd (false≢true t)

-- where 3 to 6 do not apply, the matrices are valid
pub valid_of : (call : Call) (a b m c : List ℕ) → matrices_refusal call a b m c ≡ 0 → Valid call a b m c
unfolding matrices_refusal
valid_of call a b m c h₂ =
    let h₃ = later _ 3 _ refl h₂ in
    let h₄ = later _ 4 _ refl h₃.rest in
    let h₅ = later _ 5 _ refl h₄.rest in
    let h₆ = later _ 6 _ refl h₅.rest in
    record {
      first = matrix_facts a (not-false _ h₃.here);
      second = λ t. matrix_facts b (there_valid _ _ h₄.here t);
      mask = λ t. matrix_facts m (there_valid _ _ h₅.here t);
      output = matrix_facts c (not-false _ h₆.here);
    }

-- a call that is ready to be worked out
pub record Checked (call : Call) (a b m c is js : List ℕ) (work : ℕ) : Type 0 where
  pub ready : Ready call a b m c is js
  pub workspace : workspace_words ≤ work

module _ (call : Call) (a b m c is js : List ℕ) (work : ℕ) where
  abbrev agreements : List Case
  agreements = agreement_cases call (grid_of a) (grid_of b) (grid_of m) (grid_of c) is js work

  -- where 7 to 9 do not apply either, it is
  pub checked_of : Valid call a b m c → agreement_refusal call (grid_of a) (grid_of b) (grid_of m) (grid_of c) is js work ≡ 0
      → Checked call a b m c is js work
  unfolding agreement_refusal
  checked_of v h₆ =
      let h₇ = later _ 7 _ refl h₆ in
      let h₈ = later _ 8 _ refl h₇.rest in
      let h₉ = later _ 9 _ refl h₈.rest in
      record {
        ready = record { inputs = v; indexes = not-false _ h₇.here; shapes = not-false _ h₈.here };
        workspace = ltb-false _ _ h₉.here;
      }

  numbers_numbered : Numbered (number_cases call)
  numbers_numbered = (refl, (refl, tt))

  matrices_numbered : Numbered (matrix_cases call a b m c)
  matrices_numbered = (refl, (refl, (refl, (refl, tt))))

  pub number_refused : (n : ℕ) → n ≡ numbers_refusal call → (n ≡ 0 → ⊥) → n ≡ input_refusal call a b m c is js work
  unfolding input_refusal numbers_refusal matrices_refusal agreement_refusal
  number_refused n e h = applying_first (number_cases call) (matrix_cases call a b m c ++ agreements) n e h

  pub matrix_refused : numbers_refusal call ≡ 0 → (n : ℕ) → n ≡ matrices_refusal call a b m c → (n ≡ 0 → ⊥)
      → n ≡ input_refusal call a b m c is js work
  unfolding input_refusal numbers_refusal matrices_refusal agreement_refusal
  matrix_refused z n e h =
      applying_first (matrix_cases call a b m c) agreements n e h
      ∙ sym (applying_rest (number_cases call) (matrix_cases call a b m c ++ agreements) numbers_numbered z)

  pub agreement_refused : numbers_refusal call ≡ 0 → matrices_refusal call a b m c ≡ 0
      → agreement_refusal call (grid_of a) (grid_of b) (grid_of m) (grid_of c) is js work ≡ input_refusal call a b m c is js work
  unfolding input_refusal numbers_refusal matrices_refusal agreement_refusal
  agreement_refused z y =
      sym (applying_rest (number_cases call) (matrix_cases call a b m c ++ agreements) numbers_numbered z
      ∙ applying_rest (matrix_cases call a b m c) agreements matrices_numbered y)

  -- a call that no refusal of its inputs applies to
  pub ready_of : input_refusal call a b m c is js work ≡ 0 → Checked call a b m c is js work
  unfolding input_refusal numbers_refusal matrices_refusal agreement_refusal
  ready_of h =
      let z = applying_none (number_cases call) (matrix_cases call a b m c ++ agreements) numbers_numbered h in
      let h₂ = sym (applying_rest (number_cases call) (matrix_cases call a b m c ++ agreements) numbers_numbered z) ∙ h in
      let y = applying_none (matrix_cases call a b m c) agreements matrices_numbered h₂ in
      checked_of (valid_of call a b m c y)
      (sym (applying_rest (matrix_cases call a b m c) agreements matrices_numbered y) ∙ h₂)
