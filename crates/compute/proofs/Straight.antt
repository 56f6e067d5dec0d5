-- Where C takes T in every place and no input is transposed: T of the inputs as they are lent is the final C.
use Prim.Native.Nat.{ℕ}
use mathlib.Core.Path.{◌≡◌, sym, ap, ◌∙◌}
use mathlib.Core.List.{List}
use mathlib.Core.Bool.{Bool, true}
use Rattle.std.specs.Prelude.{Result}
use Rattle.answers.specs.declared.Refusal.{Refusal}
use Rattle.matrix.specs.Layout.{grid_of}
use Rattle.operations.specs.declared.Call.{Call}
use Rattle.operations.specs.declared.WriteBack.{WriteBack}
use Rattle.operations.specs.GridOperations.{result_grid}
use Rattle.operations.specs.Calls.{transpose_first, transpose_second, has_second, write_back_of}
use Rattle.requests.specs.Refusal.{lent_final}
use Rattle.sources.specs.Sources.{Source, Sources, second_flag, first_region, second_region}
use Rattle.sources.proofs.Sources.{first_read, second_read}
use Rattle.plain_results.specs.Rows.{Inputs}
use Rattle.compute.specs.Computing.{Prepared, straight, Computed}
use Rattle.compute.proofs.Plain.{first_lent, second_lent, straight_plain, computed_same}
use Rattle.compute.proofs.FinalRow.{all_inputs, plain_same}

-- the test was true
pub taken : (u v : WriteBack) (first second r : Bool) → u ≡ v → r ≡ straight u first second → r ≡ true
    → straight v first second ≡ true
taken u v first second r e f t = sym (ap (λ (w : WriteBack). straight w first second) e) ∙ sym f ∙ t

module _ (call : Call) (a b m c is js w : List ℕ) (first second : Bool) (p : Prepared call a b m c is js)
    (s : Sources call a b w) (f : (first ≡ transpose_first call) × (second ≡ second_flag call))
    (t : straight (write_back_of call) first second ≡ true) where
  -- the inputs are read as they are lent
  first_source : Source (transpose_first call) a a
  first_source =
      first_read _ first _ (first_region w) _ (first_lent (write_back_of call) first second t _ _) f.0 s.first

  second_source : has_second call.operation ≡ true → Source (transpose_second call) b b
  second_source h =
      second_read call second b (second_region w) _ (second_lent (write_back_of call) first second t _ _) f.1 s.second h

  pub straight_inputs : Inputs call.operation a b c is js
  straight_inputs = all_inputs call _ _ m _ _ _ _ _ p first_source second_source p.inverses

  pub straight_computed : (r : Result ℕ Refusal) (w' : List ℕ)
      → Computed r (result_grid call.operation (grid_of a) (grid_of b) (grid_of c) is js) w'
      → Computed r (lent_final call a b m c is js) w'
  straight_computed r w' h =
      computed_same r _ _ _
      (plain_same _ _ _ _ _ _ _ _ _ p first_source second_source (straight_plain (write_back_of call) first second t)) h
