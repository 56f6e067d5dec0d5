-- Short lists of calls, computed: what each call answers, and so what it left for the later ones.
use Rattle.std.specs.Prelude.{ℕ, ◌-◌, ◌≡◌, refl, Bool, true, false, cond, List, [], ◌∷◌, ◌++◌, replicate, ltb, None, Some}
use Rattle.conditions.specs.Tests.{◌and◌, all}
use Rattle.limits.specs.Sizes.{workspace_words}
use Rattle.limits.specs.Ranges.{in_range}
use Rattle.answers.specs.Refusals.{accepted, refused}
use Rattle.answers.specs.Reads.{found_answer, refused_read}
use Rattle.answers.specs.Numbers.{number_answer, refused_number}
use Rattle.grid.specs.declared.EntryAt.TheVariants as entry
use Rattle.grid.specs.Entries.{one, gather, flatten}
use Rattle.grid.specs.Position.{entry_at}
use Rattle.operations.specs.Calls.{call_final, list_valid, indexes_valid, shapes_agree}
use Rattle.operations.specs.WriteBacks.{write_back}
use Rattle.operators.specs.Operators.{binary_word, unary_word, entry_word}
use Rattle.operator_codes.specs.Codes.{binary_numbered, monoid_numbered, unary_numbered, apply_numbered}
use Rattle.reductions.specs.Reductions.{reduced_row, grid_total}
use Rattle.twos_complement.specs.TwosComplement.{signed, word}
use Rattle.call_codes.specs.declared.Options.{Options}
use Rattle.call_codes.specs.declared.Verb.{Verb}
use Rattle.call_codes.specs.declared.Verb.TheVariants.{EwiseAdd, Apply, Extract, ReduceRows}
use Rattle.model.specs.Model.{Model, vacant, holding, fresh}
use Rattle.model.specs.Effects.{Reply, wrote, found, totalled, reply_of, next_of}
use Rattle.model.specs.Calls.{
  StoreCall,
  new_empty,
  drop_slot,
  set_cell,
  clear_cell,
  read_cell,
  operate,
  reduce_slot,
  effect,
}
use Rattle.model.specs.Histories.{replies, model_after}

-- the replies, in short
abbrev entries : ℕ → Reply
entries n = wrote (accepted n)

abbrev refusal : ℕ → Reply
refusal code = wrote (refused code)

-- of a read: a value and its position, or the position where one would be put
abbrev value : ℕ → ℕ → Reply
value v p = found (found_answer (entry.Present v p))

abbrev absent : ℕ → Reply
absent p = found (found_answer (entry.Absent p))

abbrev read_refusal : ℕ → Reply
read_refusal code = found (refused_read code)

-- ---- room: a store of 18 words has room for one empty vector, which fits exactly
abbrev room_calls : List StoreCall
room_calls =
    new_empty 0 1 2
    ∷ set_cell 0 0 1 7
    ∷ new_empty 1 1 1
    ∷ drop_slot 8
    ∷ drop_slot 0
    ∷ read_cell 0 0 0
    ∷ drop_slot 0
    ∷ new_empty 1 1 3
    ∷ new_empty 1 1 4
    ∷ new_empty 1 2 3
    ∷ new_empty 1 1001 1
    ∷ set_cell 0 0 0 5
    ∷ new_empty 8 1 1
    ∷ new_empty 1 0 1
    ∷ new_empty 1 1 0
    ∷ read_cell 1 0 2
    ∷ read_cell 1 0 3
    ∷ []

-- the set needs two words more than there are, counted after the call; dropped, the room serves the next; what is laid over
-- gives up its room; 8 and 13 come before 11
room_answered : replies 18 fresh room_calls
    ≡ entries 0
    ∷ refusal 11
    ∷ refusal 11
    ∷ refusal 12
    ∷ entries 0
    ∷ read_refusal 13
    ∷ entries 0
    ∷ entries 0
    ∷ entries 0
    ∷ refusal 11
    ∷ refusal 8
    ∷ refusal 13
    ∷ refusal 12
    ∷ refusal 8
    ∷ refusal 8
    ∷ absent 0
    ∷ absent 0
    ∷ []
unfolding effect reply_of next_of entry_at in_range ◌and◌ flatten gather one
room_answered = refl

-- ---- cells: 12, 13 and 7 in this order, and a value set, replaced and cleared
abbrev cell_calls : List StoreCall
cell_calls =
    set_cell 8 0 0 7
    ∷ set_cell 0 9 9 7
    ∷ clear_cell 0 9 9
    ∷ read_cell 0 9 9
    ∷ new_empty 0 2 3
    ∷ set_cell 0 2 0 7
    ∷ set_cell 0 0 3 7
    ∷ clear_cell 0 2 0
    ∷ read_cell 0 0 3
    ∷ set_cell 0 1 2 7
    ∷ set_cell 0 1 2 8
    ∷ set_cell 0 0 2 0
    ∷ read_cell 0 1 2
    ∷ read_cell 0 0 2
    ∷ read_cell 0 2 1
    ∷ clear_cell 0 1 1
    ∷ clear_cell 0 1 2
    ∷ read_cell 0 1 2
    ∷ read_cell 0 0 2
    ∷ []

cells_answered : replies 30 fresh cell_calls
    ≡ refusal 12
    ∷ refusal 13
    ∷ refusal 13
    ∷ read_refusal 13
    ∷ entries 0
    ∷ refusal 7
    ∷ refusal 7
    ∷ refusal 7
    ∷ read_refusal 7
    ∷ entries 1
    ∷ entries 1
    ∷ entries 2
    ∷ value 8 1
    ∷ value 0 0
    ∷ read_refusal 7
    ∷ entries 2
    ∷ entries 1
    ∷ absent 1
    ∷ value 0 0
    ∷ []
unfolding effect reply_of next_of entry_at in_range ◌and◌ flatten gather one
cells_answered = refl

-- ---- 10: a grid of 2,048 entries and one empty column, in a store that it fills, takes no entry more: 10 comes before 11,
-- and a set that fits exactly is accepted
abbrev full : Model
full =
    holding 0 (record { rows = 64; cols = 33; cell = λ i j. cond (ltb j 32) (Some 1) None })
    ∷ replicate 7 vacant

abbrev full_calls : List StoreCall
full_calls = set_cell 0 5 32 7 ∷ set_cell 0 5 31 7 ∷ clear_cell 0 5 30 ∷ set_cell 0 5 32 7 ∷ read_cell 0 5 32 ∷ []

full_answered : replies 4177 full full_calls ≡ refusal 10 ∷ entries 2048 ∷ entries 2047 ∷ entries 2048 ∷ value 7 191 ∷ []
unfolding effect reply_of next_of entry_at ◌and◌ flatten gather one
full_answered = refl

-- ---- an operation: the roles apart. A is slot 0, B slot 1, the mask slot 2, C slot 3
abbrev laid : List StoreCall
laid =
    new_empty 0 1 4
    ∷ set_cell 0 0 0 5
    ∷ set_cell 0 0 1 7
    ∷ new_empty 1 1 4
    ∷ set_cell 1 0 0 2
    ∷ set_cell 1 0 2 9
    ∷ new_empty 2 1 4
    ∷ set_cell 2 0 0 1
    ∷ set_cell 2 0 1 0
    ∷ set_cell 2 0 2 4
    ∷ new_empty 3 1 4
    ∷ set_cell 3 0 0 100
    ∷ set_cell 3 0 1 200
    ∷ set_cell 3 0 3 300
    ∷ []

-- the union of two slots under an operator, with a mask or not, with as many words to work in
abbrev united : ℕ → Bool → ℕ → ℕ → ℕ → ℕ → ℕ → StoreCall
united op masked a b m c work =
    operate (record { flags = 0; has_mask = masked; accumulator = None }) (EwiseAdd op)
    (record { first = a; second = b; mask = m; output = c }) [] [] work

-- under MINUS
abbrev difference : Bool → ℕ → ℕ → ℕ → ℕ → ℕ → StoreCall
difference masked a b m c work = united 4 masked a b m c work

-- each role past the last slot, and each in an empty slot; 12 before 2, 2 before 13, 13 before 9; an absent mask is not
-- looked at; what C then holds, and the inputs
abbrev role_calls : List StoreCall
role_calls =
    difference true 8 1 2 3 workspace_words
    ∷ difference true 0 8 2 3 workspace_words
    ∷ difference true 0 1 8 3 workspace_words
    ∷ difference true 0 1 2 8 workspace_words
    ∷ united 8 true 0 1 2 8 workspace_words
    ∷ united 8 true 7 1 2 3 workspace_words
    ∷ difference true 7 1 2 3 workspace_words
    ∷ difference true 0 7 2 3 workspace_words
    ∷ difference true 0 1 7 3 workspace_words
    ∷ difference true 0 1 2 7 (workspace_words - 1)
    ∷ difference true 0 1 2 3 (workspace_words - 1)
    ∷ difference true 0 1 2 3 workspace_words
    ∷ read_cell 3 0 0
    ∷ read_cell 3 0 1
    ∷ read_cell 3 0 2
    ∷ read_cell 3 0 3
    ∷ read_cell 0 0 0
    ∷ read_cell 1 0 0
    ∷ read_cell 2 0 0
    ∷ difference false 0 1 9 3 workspace_words
    ∷ read_cell 3 0 1
    ∷ read_cell 3 0 3
    ∷ difference false 3 3 3 3 workspace_words
    ∷ read_cell 3 0 2
    ∷ []

roles_answered : replies 200 (model_after 200 fresh laid) role_calls
    ≡ refusal 12
    ∷ refusal 12
    ∷ refusal 12
    ∷ refusal 12
    ∷ refusal 12
    ∷ refusal 2
    ∷ refusal 13
    ∷ refusal 13
    ∷ refusal 13
    ∷ refusal 13
    ∷ refusal 9
    ∷ entries 4
    ∷ value 3 0
    ∷ value 200 1
    ∷ value 9 2
    ∷ value 300 3
    ∷ value 5 0
    ∷ value 2 0
    ∷ value 1 0
    ∷ entries 3
    ∷ value 7 1
    ∷ absent 3
    ∷ entries 3
    ∷ value 0 2
    ∷ []
unfolding effect reply_of next_of entry_at in_range ◌and◌ all flatten gather one call_final indexes_valid list_valid shapes_agree
    write_back binary_word binary_numbered signed word
roles_answered = refl

-- a call by its flags, its verb and its roles, with the lists and as many words to work in
abbrev asked : ℕ → Verb → ℕ → ℕ → ℕ → List ℕ → List ℕ → ℕ → StoreCall
asked flags verb a b c is js work =
    operate (record { flags = flags; has_mask = false; accumulator = None }) verb
    (record { first = a; second = b; mask = 9; output = c }) is js work

-- the rest of the order: 12 before 1, 1 before 2, 13 before 7, 7 before 8, 8 before 9. An apply has no second input, and
-- what is named for it is not looked at. The lists are those of the rows and of the columns
abbrev order_calls : List StoreCall
order_calls =
    asked 32 (EwiseAdd 8) 8 0 0 [] [] 0
    ∷ asked 32 (EwiseAdd 8) 7 0 0 [] [] 0
    ∷ asked 0 Extract 7 0 4 (0 ∷ []) (4 ∷ []) 0
    ∷ asked 0 Extract 0 0 4 (0 ∷ []) (4 ∷ []) 0
    ∷ asked 0 Extract 0 0 4 (1 ∷ []) (0 ∷ []) 0
    ∷ asked 0 Extract 0 0 4 (0 ∷ []) (3 ∷ []) 0
    ∷ asked 0 (EwiseAdd 4) 0 4 3 [] [] 0
    ∷ asked 0 (Apply 0 1 0) 0 8 3 [] [] workspace_words
    ∷ read_cell 3 0 1
    ∷ asked 8 Extract 0 0 4 (1 ∷ 0 ∷ []) (0 ∷ []) workspace_words
    ∷ read_cell 4 0 0
    ∷ read_cell 4 1 0
    ∷ []

order_answered : replies 200 (model_after 200 fresh (laid ++ (new_empty 4 2 1 ∷ []))) order_calls
    ≡ refusal 12
    ∷ refusal 1
    ∷ refusal 13
    ∷ refusal 7
    ∷ refusal 7
    ∷ refusal 8
    ∷ refusal 8
    ∷ entries 2
    ∷ value 4294967289 1
    ∷ entries 2
    ∷ value 7 0
    ∷ value 5 1
    ∷ []
unfolding effect reply_of next_of entry_at in_range ◌and◌ all flatten gather one call_final indexes_valid list_valid shapes_agree
    write_back binary_word binary_numbered apply_numbered unary_numbered unary_word entry_word signed word
order_answered = refl

-- the final C does not fit: 9 comes before 11, and C is as it was. It takes the room of a slot that goes
tight_answered : replies 69 (model_after 69 fresh laid)
    (difference true 0 1 2 3 (workspace_words - 1)
    ∷ difference true 0 1 2 3 workspace_words
    ∷ read_cell 3 0 0
    ∷ drop_slot 1
    ∷ difference true 0 0 2 3 workspace_words
    ∷ [])
    ≡ refusal 9 ∷ refusal 11 ∷ value 100 0 ∷ entries 0 ∷ entries 3 ∷ []
unfolding effect reply_of next_of entry_at in_range ◌and◌ all flatten gather one call_final indexes_valid list_valid shapes_agree
    write_back binary_word binary_numbered signed word
tight_answered = refl

-- with one word more it fits exactly, beside all others
exact_answered : replies 70 (model_after 70 fresh laid) (difference true 0 1 2 3 workspace_words ∷ []) ≡ entries 4 ∷ []
unfolding effect reply_of next_of entry_at in_range ◌and◌ all flatten gather one call_final indexes_valid list_valid shapes_agree
    write_back binary_word binary_numbered signed word
exact_answered = refl

-- ---- reductions: 12 before 2, 2 before 13; the identities of an empty grid; the slot stays. The rows of slot 0 into one row
abbrev total_calls : List StoreCall
total_calls =
    reduce_slot 8 4
    ∷ reduce_slot 7 4
    ∷ reduce_slot 7 3
    ∷ reduce_slot 0 3
    ∷ reduce_slot 0 6
    ∷ reduce_slot 4 5
    ∷ reduce_slot 4 6
    ∷ reduce_slot 4 7
    ∷ read_cell 0 0 0
    ∷ asked 0 (ReduceRows 3) 0 0 4 [] [] workspace_words
    ∷ asked 8 (ReduceRows 3) 0 0 4 [] [] workspace_words
    ∷ read_cell 4 0 0
    ∷ []

abbrev number : ℕ → Reply
number v = totalled (number_answer v)

abbrev number_refusal : ℕ → Reply
number_refusal code = totalled (refused_number code)

totals_answered : replies 200 (model_after 200 fresh (laid ++ (new_empty 4 1 1 ∷ []))) total_calls
    ≡ number_refusal 12
    ∷ number_refusal 2
    ∷ number_refusal 13
    ∷ number 12
    ∷ number 5
    ∷ number 1
    ∷ number 2147483647
    ∷ number 2147483648
    ∷ value 5 0
    ∷ entries 1
    ∷ refusal 8
    ∷ value 12 0
    ∷ []
unfolding effect reply_of next_of in_range ◌and◌ all flatten gather one call_final indexes_valid list_valid shapes_agree write_back
    binary_word monoid_numbered reduced_row grid_total signed word entry_at
totals_answered = refl
