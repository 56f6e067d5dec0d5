-- A second input or index lists that an operation does not have are not looked at: whatever is lent for them, the call
-- answers and leaves the same.
use Prim.Native.Nat.{ℕ}
use mathlib.Core.Path.{◌≡◌, ap, ◌∙◌}
use mathlib.Core.Bool.{false}
use mathlib.Core.List.{List}
use lib.ListN.{length}
use Rattle.answers.specs.Answers.{Answer}
use Rattle.answers.specs.Refusals.{unless_refused}
use Rattle.conditions.specs.Tests.{◌and◌}
use Rattle.grid.specs.Grid.{Grid}
use Rattle.matrix.specs.Layout.{grid_of}
use Rattle.operations.specs.declared.Call.{Call}
use Rattle.operations.specs.declared.Needs.{Needs}
use Rattle.operations.specs.declared.Shapes.{Shapes}
use Rattle.operations.specs.GridOperations.{oriented, needs_of, shape_of}
use Rattle.operations.specs.WriteBacks.{final_grid}
use Rattle.operations.specs.Calls.{
  transpose_first,
  transpose_second,
  write_back_of,
  has_second,
  has_lists,
  call_shapes,
  call_final,
  indexes_valid,
  shapes_meet,
  shapes_agree,
}
use Rattle.operations.proofs.Results.{shapes_unread, second_unread, needs_unread, lists_unread}
use Rattle.refusals.specs.Cases.{first_of, answer_for}
use Rattle.requests.specs.Refusal.{input_refusal, output_refusal, lent_refusal, lent_final}
use Rattle.calls.specs.Completion.{Completed}
use Rattle.encoding.specs.Encode.{updated_to}

-- the answer and the words, by the refusal of the inputs and the final C
made_same : (call : Call) (a b b' m c is is' js js' w : List ℕ)
    → input_refusal call a b m c is js (length w) ≡ input_refusal call a b' m c is' js' (length w)
    → lent_final call a b m c is js ≡ lent_final call a b' m c is' js'
    → (answer : Answer) (c' w' : List ℕ) → Completed call a b m c is js w answer c' w'
    → Completed call a b' m c is' js' w answer c' w'
unfolding lent_refusal
made_same call a b b' m c is is' js js' w e f answer c' w' h = record {
  attempted = record {
    answer_is =
        h.attempted.answer_is
        ∙ ap (λ (n : ℕ). answer_for (first_of n (output_refusal (lent_final call a b m c is js) (length c)))
        (lent_final call a b m c is js)) e
        ∙ ap (λ (g : Grid). answer_for (first_of (input_refusal call a b' m c is' js' (length w))
        (output_refusal g (length c))) g) f;
    words_are = h.attempted.words_are ∙ ap (λ (g : Grid). unless_refused answer c (updated_to g c)) f;
  };
  cleared = h.cleared;
}

module _ (call : Call) (a b b' m c : Grid) (is is' js js' : List ℕ) where
  abbrev A : Grid
  A = oriented (transpose_first call) a

  abbrev B : Grid
  B = oriented (transpose_second call) b

  abbrev B' : Grid
  B' = oriented (transpose_second call) b'

  module _ (h : has_lists call.operation ≡ false) where
    indexes_lists : indexes_valid call a b c is js ≡ indexes_valid call a b c is' js'
    unfolding indexes_valid
    indexes_lists = rw h

    shapes_lists : shapes_agree call a b m c is js ≡ shapes_agree call a b m c is' js'
    unfolding shapes_agree
    shapes_lists =
        ap (λ (n : Needs). shapes_meet call (call_shapes call a b c is js) n (shape_of m))
        (needs_unread A B c is is' js js' call.operation h)

    final_lists : call_final call a b m c is js ≡ call_final call a b m c is' js'
    unfolding call_final
    final_lists =
        ap (final_grid (write_back_of call) m c)
        (lists_unread A B c is is' js js' call.operation h)

  module _ (h : has_second call.operation ≡ false) where
    shapes_are : call_shapes call a b c is js ≡ call_shapes call a b' c is js
    shapes_are = shapes_unread A B B' c is js call.operation h

    indexes_second : indexes_valid call a b c is js ≡ indexes_valid call a b' c is js
    unfolding indexes_valid
    indexes_second = rw shapes_are

    shapes_second : shapes_agree call a b m c is js ≡ shapes_agree call a b' m c is js
    unfolding shapes_agree
    shapes_second =
        ap (λ (s : Shapes). shapes_meet call s (needs_of call.operation s) (shape_of m)) shapes_are

    final_second : call_final call a b m c is js ≡ call_final call a b' m c is js
    unfolding call_final
    final_second =
        ap (final_grid (write_back_of call) m c)
        (second_unread A B B' c is js call.operation h)

module _ (call : Call) (a b b' m c is is' js js' w : List ℕ) (answer : Answer) (c' w' : List ℕ) where
  pub completed_lists : has_lists call.operation ≡ false → Completed call a b m c is js w answer c' w'
      → Completed call a b m c is' js' w answer c' w'
  unfolding input_refusal
  completed_lists h =
      made_same call a b b m c is is' js js' w refusal
      (final_lists call (grid_of a) (grid_of b) (grid_of b) (grid_of m) (grid_of c) is is' js js' h) answer c' w'
    where
      refusal : input_refusal call a b m c is js (length w) ≡ input_refusal call a b m c is' js' (length w)
      refusal =
          let i = indexes_lists call (grid_of a) (grid_of b) (grid_of b) (grid_of m) (grid_of c) is is' js js' h in
          let s = shapes_lists call (grid_of a) (grid_of b) (grid_of b) (grid_of m) (grid_of c) is is' js js' h in
          rw (i, s)

  pub completed_second : has_second call.operation ≡ false → Completed call a b m c is js w answer c' w'
      → Completed call a b' m c is js w answer c' w'
  unfolding input_refusal ◌and◌
  completed_second h =
      made_same call a b b' m c is is js js w refusal
      (final_second call (grid_of a) (grid_of b) (grid_of b') (grid_of m) (grid_of c) is is js js h) answer c' w'
    where
      refusal : input_refusal call a b m c is js (length w) ≡ input_refusal call a b' m c is js (length w)
      refusal =
          let i = indexes_second call (grid_of a) (grid_of b) (grid_of b') (grid_of m) (grid_of c) is is js js h in
          let s = shapes_second call (grid_of a) (grid_of b) (grid_of b') (grid_of m) (grid_of c) is is js js h in
          rw (h, i, s)
