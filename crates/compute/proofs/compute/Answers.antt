-- `compute` puts the inverses of the lists in the place of a second input, where there are lists.
use mathlib.Core.Path.{◌≡◌, refl, sym, ap, ◌∙◌}
use mathlib.Core.Bool.{true}
use Rattle.operations.specs.declared.Inputs.{Inputs}
use Rattle.operations.specs.Calls.{has_lists}
use Rattle.compute.proofs.Prepared.{prepared_lent, row_indices, column_indices, prepared_listed, computed_listed}
use Rattle.compute.proofs.compute.Goals as goal

-- there are lists
listed : (t : goal.After-inverses-1) → has_lists t.args.call.operation ≡ true
listed t = sym (ap (λ (x : Inputs). x.lists) t.inputs_of.ensures) ∙ t.if-inputs_of.true

-- there are lists
listed_2 : (t : goal.After-compute_prepared-arg-1) → has_lists t.args.call.operation ≡ true
listed_2 t = sym (ap (λ (x : Inputs). x.lists) t.inputs_of.ensures) ∙ t.if-inputs_of.true

-- there are lists
listed_3 : (t : goal.After-slice_known-then-inputs_of-1) → has_lists t.args.call.operation ≡ true
listed_3 t = sym (ap (λ (x : Inputs). x.lists) t.inputs_of.ensures) ∙ t.if-inputs_of.true

pub invert_lists-requires : goal.invert_lists-requires
invert_lists-requires c =
    record {
      fact_1 = row_indices c.requires.ready (listed c);
      fact_2 = column_indices c.requires.ready (listed c);
      fact_3 = refl;
    }

pub compute_prepared-requires : goal.compute_prepared-requires
compute_prepared-requires c =
    record {
      prepared = prepared_listed c.requires.ready (listed_2 c) _ c.invert_lists.ensures;
      space = c.requires.space;
    }

pub returns-then-inputs_of : goal.returns-then-inputs_of
returns-then-inputs_of c =
    computed_listed c.requires.ready (listed_3 c) c.invert_lists.new.out c.compute_prepared.result _
    c.compute_prepared.ensures

pub compute_prepared-requires-2 : goal.compute_prepared-requires-2
compute_prepared-requires-2 c =
    record {
      prepared = prepared_lent c.requires.ready (sym (ap (λ (x : Inputs). x.lists) c.inputs_of.ensures) ∙ c.if-inputs_of.false);
      space = c.requires.space;
    }
