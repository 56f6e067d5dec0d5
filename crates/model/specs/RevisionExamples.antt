-- The revisions that short lists of calls leave (document 02, A12), computed.
use Rattle.std.specs.Prelude.{ℕ, ◌≡◌, refl, false, None, List, [], ◌∷◌, ◌++◌, replicate}
use Rattle.conditions.specs.Tests.{◌and◌, all}
use Rattle.limits.specs.Sizes.{workspace_words}
use Rattle.limits.specs.Ranges.{in_range}
use Rattle.grid.specs.Grid.{empty_grid}
use Rattle.grid.specs.Entries.{one, gather, flatten}
use Rattle.grid.specs.Revision.{next_revision}
use Rattle.operations.specs.Calls.{call_final, indexes_valid, shapes_agree}
use Rattle.operations.specs.WriteBacks.{write_back}
use Rattle.operators.specs.Operators.{binary_word}
use Rattle.operator_codes.specs.Codes.{binary_numbered, monoid_numbered}
use Rattle.call_codes.specs.declared.Verb.TheVariants.{EwiseAdd}
use Rattle.model.specs.Model.{Model, vacant, holding, fresh, revision_at}
use Rattle.model.specs.Effects.{reply_of, next_of}
use Rattle.model.specs.Calls.{
  StoreCall,
  new_empty,
  drop_slot,
  set_cell,
  clear_cell,
  read_cell,
  operate,
  reduce_slot,
  effect,
}
use Rattle.model.specs.Histories.{model_after}

-- the revisions of slots 0 and 1 after some calls on a store of 100 words
abbrev revisions : Model → List StoreCall → List ℕ
revisions m calls = revision_at (model_after 100 m calls) 0 ∷ revision_at (model_after 100 m calls) 1 ∷ []

-- "Laying starts at 0", whatever was there
abbrev laid : List StoreCall
laid = new_empty 0 1 3 ∷ new_empty 1 1 3 ∷ []

laying : revisions fresh (laid ++ (set_cell 0 0 0 5 ∷ new_empty 0 1 3 ∷ [])) ≡ 0 ∷ 0 ∷ []
unfolding effect reply_of next_of next_revision in_range ◌and◌ flatten gather one
laying = refl

-- a set, the same set again, a clear of what is there and of what is not: one each, "even where no cell changes"
writing : revisions fresh (laid ++ (set_cell 0 0 0 5 ∷ set_cell 0 0 0 5 ∷ clear_cell 0 0 0 ∷ clear_cell 0 0 0 ∷ []))
    ≡ 4 ∷ 0 ∷ []
unfolding effect reply_of next_of next_revision in_range ◌and◌ flatten gather one
writing = refl

-- refused calls, a read and a total add nothing
reading : revisions fresh (laid ++ (set_cell 0 1 0 5 ∷ clear_cell 0 0 3 ∷ read_cell 0 0 0 ∷ reduce_slot 0 3 ∷ [])) ≡ 0 ∷ 0 ∷ []
unfolding effect reply_of next_of next_revision in_range ◌and◌ flatten gather one monoid_numbered
reading = refl

-- the union of two slots under PLUS into a third
abbrev sum : ℕ → ℕ → ℕ → ℕ → StoreCall
sum a b c work =
    operate (record { flags = 0; has_mask = false; accumulator = None }) (EwiseAdd 3)
    (record { first = a; second = b; mask = 0; output = c }) [] [] work

-- an operation adds one to C alone; refused, nothing; and one place in several roles gains one, once
operating : revisions fresh (laid ++ (sum 0 0 1 workspace_words ∷ sum 0 0 1 0 ∷ [])) ≡ 0 ∷ 1 ∷ []
unfolding effect reply_of next_of next_revision in_range ◌and◌ all flatten gather one call_final indexes_valid shapes_agree
    write_back binary_word binary_numbered
operating = refl

aliased : revisions fresh (laid ++ (sum 1 1 1 workspace_words ∷ [])) ≡ 0 ∷ 1 ∷ []
unfolding effect reply_of next_of next_revision in_range ◌and◌ all flatten gather one call_final indexes_valid shapes_agree
    write_back binary_word binary_numbered
aliased = refl

-- "after 4294967295 the revision wraps to 0"
abbrev worn : Model
worn = holding 4294967295 (empty_grid 1 3) ∷ holding 4294967294 (empty_grid 1 3) ∷ replicate 6 vacant

wrapping : revisions worn (clear_cell 0 0 0 ∷ clear_cell 1 0 0 ∷ []) ≡ 0 ∷ 4294967295 ∷ []
unfolding effect reply_of next_of next_revision ◌and◌
wrapping = refl

-- a dropped slot has none
dropping : revisions fresh (laid ++ (set_cell 0 0 0 5 ∷ drop_slot 0 ∷ new_empty 0 1 3 ∷ [])) ≡ 0 ∷ 0 ∷ []
unfolding effect reply_of next_of next_revision in_range ◌and◌ flatten gather one
dropping = refl
