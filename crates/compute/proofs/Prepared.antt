-- The second input of an operation with lists: their inverses stand in its place. Cited by `compute`, which puts them
-- there, and by `final_row`, which reads them.
use Prim.Native.Nat.{ℕ}
use mathlib.Core.Path.{◌≡◌, refl, sym, ap, subst, ◌∙◌}
use mathlib.Core.List.{List}
use mathlib.Core.Bool.{Bool, true, false, cond, false≢true}
use Rattle.limits.specs.Limits.{max_cols}
use Rattle.conditions.proofs.Tests.{and_left, and_right}
use Rattle.grid.specs.Grid.{Grid}
use Rattle.matrix.specs.Layout.{grid_of}
use Rattle.operations.specs.declared.Call.{Call}
use Rattle.operations.specs.declared.Operation.{Operation}
use Rattle.operations.specs.declared.Operation.TheVariants.{
  Mxm,
  EwiseMult,
  EwiseAdd,
  Apply,
  Extract,
  Select,
  ReduceRows,
  Assign,
  Kronecker,
}
use Rattle.operations.specs.declared.Shapes.{Shapes}
use Rattle.operations.specs.GridOperations.{oriented, needs_of, shape_of}
use Rattle.operations.specs.WriteBacks.{final_grid}
use Rattle.operations.specs.Calls.{
  transpose_first,
  transpose_second,
  write_back_of,
  has_second,
  has_lists,
  call_shapes,
  call_needs,
  call_final,
  indexes_valid,
  shapes_meet,
  shapes_agree,
}
use Rattle.operations.specs.Lists.{Small}
use Rattle.operations.proofs.Results.{shapes_unread, second_unread}
use Rattle.requests.specs.Inputs.{Ready}
use Rattle.requests.specs.Refusal.{lent_final}
use Rattle.requests.proofs.Lists.{lists_within}
use Rattle.extract_rows.specs.Indices.{Indices, Inverses}
use Rattle.result_rows.proofs.Inputs.{list_indices}
use Rattle.sources.specs.Sources.{second_flag}
use Rattle.std.specs.Prelude.{Result}
use Rattle.answers.specs.declared.Refusal.{Refusal}
use Rattle.compute.specs.Computing.{Prepared, Computed}

-- an operation with lists has no second input
lists_alone : (op : Operation) → has_lists op ≡ true → has_second op ≡ false
lists_alone (Mxm monoid op) h = absurd (false≢true h)
lists_alone (EwiseMult op) h = absurd (false≢true h)
lists_alone (EwiseAdd op) h = absurd (false≢true h)
lists_alone (Apply op) h = absurd (false≢true h)
lists_alone Extract h = refl
lists_alone (Select op) h = absurd (false≢true h)
lists_alone (ReduceRows monoid) h = absurd (false≢true h)
lists_alone (Assign accumulator) h = refl
lists_alone (Kronecker op) h = absurd (false≢true h)

-- so it is read where it is lent
pub inverses_read : (call : Call) (flag : Bool) (is js b region y : List ℕ) → y ≡ cond flag region b
    → flag ≡ second_flag call → (has_lists call.operation ≡ true → Inverses is js b)
    → has_lists call.operation ≡ true → Inverses is js y
inverses_read call flag is js b region y e f v h =
    let none : flag ≡ false = f ∙ rw (lists_alone call.operation h) in
    rw (e, none) (v h)

-- without lists the lent inputs are prepared
pub prepared_lent : {call : Call} {a b m c is js : List ℕ} → Ready call a b m c is js
    → has_lists call.operation ≡ false → Prepared call a b m c is js
prepared_lent r h = record {
  inputs = r.inputs;
  indexes = r.indexes;
  shapes = r.shapes;
  inverses = λ t. absurd (false≢true (sym h ∙ t));
}

module _ {call : Call} {a b m c is js : List ℕ} (r : Ready call a b m c is js)
    (h : has_lists call.operation ≡ true) where
  alone : has_second call.operation ≡ false
  alone = lists_alone call.operation h

  -- the lists have rows and columns within the longest row, each once
  bounds : Small max_cols (call_needs call (grid_of a) (grid_of b) (grid_of c) is js).bounds
  bounds = lists_within call a b m c is js r.inputs _ _ refl refl

  pub row_indices : Indices is
  unfolding indexes_valid
  row_indices = list_indices _ is bounds.0 (and_left _ _ (rw h at r.indexes))

  pub column_indices : Indices js
  unfolding indexes_valid
  column_indices = list_indices _ js bounds.1 (and_right _ _ (rw h at r.indexes))

  module _ (inv : List ℕ) where
    shapes_are : call_shapes call (grid_of a) (grid_of inv) (grid_of c) is js
        ≡ call_shapes call (grid_of a) (grid_of b) (grid_of c) is js
    shapes_are =
        shapes_unread (oriented (transpose_first call) (grid_of a)) (oriented (transpose_second call) (grid_of inv))
        (oriented (transpose_second call) (grid_of b)) (grid_of c) is js call.operation alone

    -- with their inverses the inputs are prepared
    pub prepared_listed : Inverses is js inv → Prepared call a inv m c is js
    unfolding indexes_valid shapes_agree
    prepared_listed v = record {
      inputs = record {
        first = r.inputs.first;
        second = λ t. absurd (false≢true (sym alone ∙ t));
        mask = r.inputs.mask;
        output = r.inputs.output;
      };
      indexes = rw shapes_are r.indexes;
      shapes = ap (λ (s : Shapes). shapes_meet call s (needs_of call.operation s) (shape_of (grid_of m))) shapes_are
          ∙ r.shapes;
      inverses = λ t. v;
    }

    -- and the final C is the same
    final_listed : lent_final call a inv m c is js ≡ lent_final call a b m c is js
    unfolding call_final
    final_listed =
        ap (final_grid (write_back_of call) (grid_of m) (grid_of c))
        (second_unread (oriented (transpose_first call) (grid_of a)) (oriented (transpose_second call) (grid_of inv))
        (oriented (transpose_second call) (grid_of b)) (grid_of c) is js call.operation alone)

    pub computed_listed : (o : Result ℕ Refusal) (w : List ℕ) → Computed o (lent_final call a inv m c is js) w
        → Computed o (lent_final call a b m c is js) w
    computed_listed o w k = subst (λ (g : Grid). Computed o g w) final_listed k
