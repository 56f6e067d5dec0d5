-- A call of one of the operations on plain grids: its flags, the shapes and indexes it asks for, and the final C
-- (document 01, "Operators", "The six operations", "When the clerk turns a call away").
use Rattle.std.specs.Prelude.{ℕ, ◌/◌, ◌%◌, List, Bool, true, false, cond, not, length, leb, ltb, eqb}
use Rattle.limits.specs.Limits.{max_list}
use Rattle.words.specs.Words.{at}
use Rattle.conditions.specs.Tests.{◌and◌, all}
use Rattle.grid.specs.Grid.{Grid}
use Rattle.operations.specs.GridOperations.{oriented, inputs_of, needs_of, shape_of, shapes_of, result_grid}
use Rattle.operations.specs.WriteBacks.{final_grid}
use Rattle.operations.specs.declared.Call.{Call}
use Rattle.operations.specs.declared.Operation.{Operation}
use Rattle.operations.specs.declared.Needs.{Needs}
use Rattle.operations.specs.declared.Shape.{Shape}
use Rattle.operations.specs.declared.Shapes.{Shapes}
use Rattle.operations.specs.declared.WriteBack.{WriteBack}

-- "Flags add up: 1 replace, 2 complement the mask, 4 structural mask, 8 transpose the first input, 16 transpose the
-- second."
abbrev pub flag_set : ℕ → ℕ → Bool
flag_set bit flags = eqb (flags / bit % 2) 1

-- "the strip of a strip-times-sheet product is never transposed"
abbrev pub transpose_first : Call → Bool
transpose_first call = cond call.vector_first false (flag_set 8 call.flags)

abbrev pub transpose_second : Call → Bool
transpose_second call = flag_set 16 call.flags

abbrev pub write_back_of : Call → WriteBack
write_back_of call = record {
  replace = flag_set 1 call.flags;
  complement = flag_set 2 call.flags;
  structural = flag_set 4 call.flags;
  has_mask = call.has_mask;
  accumulator = call.accumulator;
}

-- whether an operation has a second input, and whether it has index lists
abbrev pub has_second : Operation → Bool
has_second op = (inputs_of op).second

abbrev pub has_lists : Operation → Bool
has_lists op = (inputs_of op).lists

-- the shapes of a call on the inputs a and b as stored, and what its operation asks of them
abbrev pub call_shapes : Call → Grid → Grid → Grid → List ℕ → List ℕ → Shapes
call_shapes call a b c is js =
    shapes_of call.operation (oriented (transpose_first call) a) (oriented (transpose_second call) b) c is js

abbrev pub call_needs : Call → Grid → Grid → Grid → List ℕ → List ℕ → Needs
call_needs call a b c is js = needs_of call.operation (call_shapes call a b c is js)

-- T, of the inputs a and b as stored and the old C
abbrev pub call_result : Call → Grid → Grid → Grid → List ℕ → List ℕ → Grid
call_result call a b c is js =
    result_grid call.operation (oriented (transpose_first call) a) (oriented (transpose_second call) b) c is js

-- the final C, of the inputs, the mask and the old C
unfoldable pub call_final : Call → Grid → Grid → Grid → Grid → List ℕ → List ℕ → Grid
call_final call a b m c is js = final_grid (write_back_of call) m c (call_result call a b c is js)

-- none of the first k indexes is j
abbrev pub fresh : List ℕ → ℕ → ℕ → Bool
fresh l k j = all k (λ h. not (eqb (at l h) j))

-- index k of the list is below n, and does not stand before
abbrev pub index_fits : ℕ → List ℕ → ℕ → Bool
index_fits n l k = ltb (at l k) n and fresh l k (at l k)

-- not 7: the list has 1 to 1,000 indexes, each below n, and none stands twice (document 02, A9: "Extract now refuses 7 if an
-- index occurs twice in the same list", which replaces "an index may repeat")
unfoldable pub list_valid : ℕ → List ℕ → Bool
list_valid n l = leb 1 (length l) and leb (length l) max_list and all (length l) (index_fits n l)

-- not 7, where there are lists: each index stays below its bound
abbrev pub lists_valid : Operation → Shape → List ℕ → List ℕ → Bool
lists_valid op bounds is js = cond (has_lists op) (list_valid bounds.rows is and list_valid bounds.cols js) true

unfoldable pub indexes_valid : Call → Grid → Grid → Grid → List ℕ → List ℕ → Bool
indexes_valid call a b c is js = lists_valid call.operation (call_needs call a b c is js).bounds is js

-- one shape
abbrev pub matches : Shape → Shape → Bool
matches s t = eqb s.rows t.rows and eqb s.cols t.cols

abbrev pub same_shape : Grid → Grid → Bool
same_shape g h = matches (shape_of g) (shape_of h)

-- the inputs have the shapes that the operation asks for
abbrev pub inputs_agree : Shapes → Needs → Bool
inputs_agree s n = matches s.first n.first and matches s.second n.second

-- not 8: "shapes of inputs, mask, C and T disagree; no strip where one is due", of the shapes and the mask's
abbrev pub shapes_meet : Call → Shapes → Needs → Shape → Bool
shapes_meet call s n mask =
    cond call.vector_first (eqb s.first.rows 1) true
    and inputs_agree s n
    and matches n.result s.output
    and cond call.has_mask (matches mask s.output) true

unfoldable pub shapes_agree : Call → Grid → Grid → Grid → Grid → List ℕ → List ℕ → Bool
shapes_agree call a b m c is js = shapes_meet call (call_shapes call a b c is js) (call_needs call a b c is js) (shape_of m)
