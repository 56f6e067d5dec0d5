-- Computed examples: definitions beside their nearest wrong readings.
use Rattle.std.specs.Prelude.{ℕ, zero, suc, ◌+◌, ◌*◌, ◌≡◌, refl, List, [], ◌∷◌, ◌++◌, Bool, true, false, cond, replicate, eqb, None, Some}
use Rattle.limits.specs.Limits.{max_list}
use Rattle.conditions.specs.Tests.{◌and◌, all}
use Rattle.twos_complement.specs.TwosComplement.{signed, word}
use Rattle.grid.specs.Cell.{Cell}
use Rattle.grid.specs.Grid.{Grid, empty_grid}
use Rattle.operators.specs.declared.ApplyOp.TheVariants.{Unary, BinaryScalarFirst, BinaryScalarSecond, IndexUnary}
use Rattle.operators.specs.declared.BinaryOp.TheVariants as binary
use Rattle.operators.specs.declared.Monoid.TheVariants as monoid
use Rattle.operators.specs.declared.UnaryOp.TheVariants.{Identity}
use Rattle.operators.specs.declared.IndexUnaryOp.{IndexUnaryOp}
use Rattle.operators.specs.declared.IndexUnaryOp.TheVariants.{RowIndex, ColIndex, DiagIndex}
use Rattle.operators.specs.Operators.{binary_word, index_unary_word, entry_word}
use Rattle.select_ops.specs.declared.SelectOp.{SelectOp}
use Rattle.select_ops.specs.declared.SelectOp.TheVariants.{ValueGt, Tril, Triu}
use Rattle.select_ops.specs.Selects.{selects}
use Rattle.grid.specs.Entries.{one, gather}
use Rattle.reductions.specs.Reductions.{reduced_row}
use Rattle.operations.specs.declared.Call.{Call}
use Rattle.operations.specs.declared.Operation.{Operation}
use Rattle.operations.specs.declared.Operation.TheVariants.{
  Mxm,
  EwiseMult,
  EwiseAdd,
  Apply,
  Extract,
  Select,
  ReduceRows,
  Assign,
  Kronecker,
}
use Rattle.operations.specs.CellOperations.{intersect, unite, dot, apply_cell, listed_cell}
use Rattle.operations.specs.GridOperations.{oriented}
use Rattle.operations.specs.WriteBacks.{accumulated, write_back}
use Rattle.operations.specs.Calls.{
  flag_set,
  transpose_first,
  transpose_second,
  has_second,
  has_lists,
  call_result,
  call_final,
  list_valid,
  indexes_valid,
  shapes_agree,
}

-- a row of two cells
abbrev pick : ℕ → ℕ → ℕ → Cell
pick x y zero = Some x
pick x y (suc k) = Some y

-- a product, an intersection, a union, an apply
abbrev mxm : Operation
mxm = Mxm monoid.Plus binary.Times

abbrev mult : Operation
mult = EwiseMult binary.Minus

abbrev add : Operation
add = EwiseAdd binary.Minus

abbrev same : Operation
same = Apply (Unary Identity)

-- a select and a reduction of rows
abbrev above : Operation
above = Select (ValueGt 10)

abbrev sums : Operation
sums = ReduceRows monoid.Plus

-- an assign without an accumulator, and a Kronecker product
abbrev assign : Operation
assign = Assign None

abbrev kronecker : Operation
kronecker = Kronecker binary.Minus

-- calls without mask, with one, and with a vector as first input
abbrev plain : ℕ → Operation → Call
plain flags op = record {
  flags = flags;
  known = true;
  operation = op;
  vector_first = false;
  has_mask = false;
  accumulator = None;
}

abbrev masked : ℕ → Operation → Call
masked flags op = record {
  flags = flags;
  known = true;
  operation = op;
  vector_first = false;
  has_mask = true;
  accumulator = None;
}

abbrev vector : ℕ → Operation → Call
vector flags op = record {
  flags = flags;
  known = true;
  operation = op;
  vector_first = true;
  has_mask = false;
  accumulator = None;
}

-- 24 is 8 and 16
flag_set_lem : flag_set 8 24 ≡ true
flag_set_lem = refl

flag_not_set : flag_set 4 24 ≡ false
flag_not_set = refl

-- which flag transposes which input; a vector is never transposed
first_by_8 : transpose_first (plain 8 mxm) ≡ true
first_by_8 = refl

first_not_by_16 : transpose_first (plain 16 mxm) ≡ false
first_not_by_16 = refl

vector_never : transpose_first (vector 8 mxm) ≡ false
vector_never = refl

second_by_16 : transpose_second (vector 16 mxm) ≡ true
second_by_16 = refl

second_not_by_8 : transpose_second (plain 8 mxm) ≡ false
second_not_by_8 = refl

-- a grid of 2 rows and 3 columns that has 12 in row 1 and column 2
abbrev wide : Grid
wide = record { rows = 2; cols = 3; cell = λ i j. Some (10 * i + j) }

transposed_cell : (oriented true wide).cell 2 1 ≡ Some 12
transposed_cell = refl

stored_cell : (oriented false wide).cell 1 2 ≡ Some 12
stored_cell = refl

transposed_rows : (oriented true wide).rows ≡ 3
transposed_rows = refl

transposed_cols : (oriented true wide).cols ≡ 2
transposed_cols = refl

-- what the operations have
mxm_second : has_second mxm ≡ true
mxm_second = refl

mult_second : has_second mult ≡ true
mult_second = refl

add_second : has_second add ≡ true
add_second = refl

apply_second : has_second same ≡ false
apply_second = refl

extract_second : has_second Extract ≡ false
extract_second = refl

mxm_lists : has_lists mxm ≡ false
mxm_lists = refl

mult_lists : has_lists mult ≡ false
mult_lists = refl

add_lists : has_lists add ≡ false
add_lists = refl

apply_lists : has_lists same ≡ false
apply_lists = refl

extract_lists : has_lists Extract ≡ true
extract_lists = refl

select_second : has_second above ≡ false
select_second = refl

select_lists : has_lists above ≡ false
select_lists = refl

sums_second : has_second sums ≡ false
sums_second = refl

sums_lists : has_lists sums ≡ false
sums_lists = refl

assign_second : has_second assign ≡ false
assign_second = refl

assign_lists : has_lists assign ≡ true
assign_lists = refl

kronecker_second : has_second kronecker ≡ true
kronecker_second = refl

kronecker_lists : has_lists kronecker ≡ false
kronecker_lists = refl

-- the shapes of a call without lists: a, b, mask and C
abbrev agree : Call → Grid → Grid → Grid → Grid → Bool
agree call a b m c = shapes_agree call a b m c [] []

abbrev by : ℕ → ℕ → Grid
by r c = empty_grid r c

-- 2 by 3 times 3 by 4 is 2 by 4: the inner numbers are compared, and T's rows and columns with C's
product_agrees : agree (plain 0 mxm) (by 2 3) (by 3 4) (by 1 1) (by 2 4) ≡ true
unfolding shapes_agree ◌and◌
product_agrees = refl

product_inner : agree (plain 0 mxm) (by 2 3) (by 2 4) (by 1 1) (by 2 4) ≡ false
unfolding shapes_agree ◌and◌
product_inner = refl

product_rows : agree (plain 0 mxm) (by 2 3) (by 3 4) (by 1 1) (by 3 4) ≡ false
unfolding shapes_agree ◌and◌
product_rows = refl

product_cols : agree (plain 0 mxm) (by 2 3) (by 3 4) (by 1 1) (by 2 3) ≡ false
unfolding shapes_agree ◌and◌
product_cols = refl

product_first : agree (plain 8 mxm) (by 3 2) (by 3 4) (by 1 1) (by 2 4) ≡ true
unfolding shapes_agree ◌and◌
product_first = refl

product_second : agree (plain 16 mxm) (by 2 3) (by 4 3) (by 1 1) (by 2 4) ≡ true
unfolding shapes_agree ◌and◌
product_second = refl

-- "no strip where one is due"; a strip keeps its one row under flag 8
vector_agrees : agree (vector 8 mxm) (by 1 3) (by 3 4) (by 1 1) (by 1 4) ≡ true
unfolding shapes_agree ◌and◌
vector_agrees = refl

vector_due : agree (vector 0 mxm) (by 2 3) (by 3 4) (by 1 1) (by 2 4) ≡ false
unfolding shapes_agree ◌and◌
vector_due = refl

-- intersection and union: inputs and T of one shape
mult_agrees : agree (plain 0 mult) (by 2 3) (by 2 3) (by 1 1) (by 2 3) ≡ true
unfolding shapes_agree ◌and◌
mult_agrees = refl

mult_rows : agree (plain 0 mult) (by 2 3) (by 3 3) (by 1 1) (by 2 3) ≡ false
unfolding shapes_agree ◌and◌
mult_rows = refl

mult_cols : agree (plain 0 mult) (by 2 3) (by 2 2) (by 1 1) (by 2 3) ≡ false
unfolding shapes_agree ◌and◌
mult_cols = refl

mult_result : agree (plain 0 mult) (by 2 3) (by 2 3) (by 1 1) (by 3 2) ≡ false
unfolding shapes_agree ◌and◌
mult_result = refl

add_agrees : agree (plain 0 add) (by 2 3) (by 2 3) (by 1 1) (by 2 3) ≡ true
unfolding shapes_agree ◌and◌
add_agrees = refl

add_rows : agree (plain 0 add) (by 2 3) (by 3 3) (by 1 1) (by 2 3) ≡ false
unfolding shapes_agree ◌and◌
add_rows = refl

add_cols : agree (plain 0 add) (by 2 3) (by 2 2) (by 1 1) (by 2 3) ≡ false
unfolding shapes_agree ◌and◌
add_cols = refl

add_result : agree (plain 0 add) (by 2 3) (by 2 3) (by 1 1) (by 3 2) ≡ false
unfolding shapes_agree ◌and◌
add_result = refl

-- apply looks at no second input
apply_agrees : agree (plain 0 same) (by 2 3) (by 5 7) (by 1 1) (by 2 3) ≡ true
unfolding shapes_agree ◌and◌
apply_agrees = refl

apply_result : agree (plain 0 same) (by 2 3) (by 2 3) (by 1 1) (by 3 2) ≡ false
unfolding shapes_agree ◌and◌
apply_result = refl

-- the mask has C's shape, where there is one
mask_agrees : agree (masked 0 same) (by 2 3) (by 1 1) (by 2 3) (by 2 3) ≡ true
unfolding shapes_agree ◌and◌
mask_agrees = refl

mask_rows : agree (masked 0 same) (by 2 3) (by 1 1) (by 1 3) (by 2 3) ≡ false
unfolding shapes_agree ◌and◌
mask_rows = refl

mask_cols : agree (masked 0 same) (by 2 3) (by 1 1) (by 2 2) (by 2 3) ≡ false
unfolding shapes_agree ◌and◌
mask_cols = refl

-- extract gives as many rows and columns as there are indexes
extract_agrees : shapes_agree (plain 0 Extract) wide (by 5 7) (by 1 1) (by 1 2) (1 ∷ []) (2 ∷ 0 ∷ []) ≡ true
unfolding shapes_agree ◌and◌
extract_agrees = refl

extract_turned : shapes_agree (plain 0 Extract) wide (by 5 7) (by 1 1) (by 2 1) (1 ∷ []) (2 ∷ 0 ∷ []) ≡ false
unfolding shapes_agree ◌and◌
extract_turned = refl

-- "T(i,j) = A(I[i], J[j])"
extract_cell : (call_result (plain 0 Extract) wide (by 5 7) (by 1 2) (1 ∷ []) (2 ∷ 0 ∷ [])).cell 0 0 ≡ Some 12
extract_cell = refl

extract_next : (call_result (plain 0 Extract) wide (by 5 7) (by 1 2) (1 ∷ []) (2 ∷ 0 ∷ [])).cell 0 1 ≡ Some 10
extract_next = refl

-- "An entry stored at (2, 5) of a transposed input has row 5 and column 2" (document 02, A5): DIAGINDEX with 10 is
-- 2 - 5 + 10. Not transposed it has row 2 and column 5.
abbrev three_by_six : Grid
three_by_six = record { rows = 3; cols = 6; cell = λ i j. Some 1 }

abbrev numbered : ℕ → IndexUnaryOp → ℕ → ℕ → ℕ → Cell
numbered flags op s i j = (call_result (plain flags (Apply (IndexUnary op s))) three_by_six (by 1 1) (by 6 3) [] []).cell i j

row_transposed : numbered 8 RowIndex 0 5 2 ≡ Some 5
unfolding entry_word index_unary_word signed word
row_transposed = refl

column_transposed : numbered 8 ColIndex 0 5 2 ≡ Some 2
unfolding entry_word index_unary_word signed word
column_transposed = refl

diagonal_transposed : numbered 8 DiagIndex 10 5 2 ≡ Some 7
unfolding entry_word index_unary_word signed word
diagonal_transposed = refl

row_stored : numbered 0 RowIndex 0 2 5 ≡ Some 2
unfolding entry_word index_unary_word signed word
row_stored = refl

-- document 02, A4: select keeps an entry as it is, or not at all; T has A's shape
select_agrees : agree (plain 0 above) (by 2 3) (by 5 7) (by 1 1) (by 2 3) ≡ true
unfolding shapes_agree ◌and◌
select_agrees = refl

select_turned : agree (plain 0 above) (by 2 3) (by 5 7) (by 1 1) (by 3 2) ≡ false
unfolding shapes_agree ◌and◌
select_turned = refl

select_kept : (call_result (plain 0 above) wide (by 1 1) (by 2 3) [] []).cell 1 2 ≡ Some 12
unfolding selects signed
select_kept = refl

select_dropped : (call_result (plain 0 above) wide (by 1 1) (by 2 3) [] []).cell 1 0 ≡ None
unfolding selects signed
select_dropped = refl

-- A5: "An entry stored at (2, 5) of a transposed input has row 5 and column 2, for select too."
abbrev triangle : ℕ → SelectOp → ℕ → ℕ → Cell
triangle flags op i j = (call_result (plain flags (Select op)) three_by_six (by 1 1) (by 6 3) [] []).cell i j

lower_transposed : triangle 8 (Tril 0) 5 2 ≡ Some 1
unfolding selects signed
lower_transposed = refl

upper_transposed : triangle 8 (Triu 0) 5 2 ≡ None
unfolding selects signed
upper_transposed = refl

lower_stored : triangle 0 (Tril 0) 2 5 ≡ None
unfolding selects signed
lower_stored = refl

-- "rows into a strip 1 by R", of A as transposed: not R by 1, and not 1 by A's columns
sums_agree : agree (plain 0 sums) (by 2 3) (by 5 7) (by 1 1) (by 1 2) ≡ true
unfolding shapes_agree ◌and◌
sums_agree = refl

sums_turned : agree (plain 0 sums) (by 2 3) (by 5 7) (by 1 1) (by 2 1) ≡ false
unfolding shapes_agree ◌and◌
sums_turned = refl

sums_columns : agree (plain 0 sums) (by 2 3) (by 5 7) (by 1 1) (by 1 3) ≡ false
unfolding shapes_agree ◌and◌
sums_columns = refl

sums_transposed : agree (plain 8 sums) (by 2 3) (by 5 7) (by 1 1) (by 1 3) ≡ true
unfolding shapes_agree ◌and◌
sums_transposed = refl

sums_mask : agree (masked 0 sums) (by 2 3) (by 5 7) (by 2 1) (by 1 2) ≡ false
unfolding shapes_agree ◌and◌
sums_mask = refl

-- row 1 of 10, 11 and 12; transposed, row 2 of 2 and 12
sums_row : (call_result (plain 0 sums) wide (by 1 1) (by 1 2) [] []).cell 0 1 ≡ Some 33
unfolding reduced_row gather one binary_word signed word
sums_row = refl

sums_column : (call_result (plain 8 sums) wide (by 1 1) (by 1 3) [] []).cell 0 2 ≡ Some 14
unfolding reduced_row gather one binary_word signed word
sums_column = refl

-- 0 up to n, n not among them
abbrev counting : ℕ → List ℕ
counting zero = []
counting (suc n) = counting n ++ (n ∷ [])

-- an index list has 1 to max_list indexes, each below n
list_below : list_valid 3 (2 ∷ 0 ∷ []) ≡ true
unfolding list_valid all ◌and◌
list_below = refl

list_at_end : list_valid 3 (0 ∷ 3 ∷ []) ≡ false
unfolding list_valid all ◌and◌
list_at_end = refl

list_empty : list_valid 3 [] ≡ false
unfolding list_valid all ◌and◌
list_empty = refl

-- longer than a list may be
list_longer : list_valid (max_list + 1) (counting (max_list + 1)) ≡ false
unfolding list_valid all ◌and◌
list_longer = refl

-- "if an index occurs twice in the same list": at the ends, next to each other; too long and repeating
list_ends : list_valid 3 (1 ∷ 0 ∷ 2 ∷ 1 ∷ []) ≡ false
unfolding list_valid all ◌and◌
list_ends = refl

list_next : list_valid 3 (0 ∷ 2 ∷ 2 ∷ []) ≡ false
unfolding list_valid all ◌and◌
list_next = refl

list_once : list_valid 3 (1 ∷ 0 ∷ 2 ∷ []) ≡ true
unfolding list_valid all ◌and◌
list_once = refl

list_longer_twice : list_valid 3 (replicate (max_list + 1) 0) ≡ false
unfolding list_valid all ◌and◌
list_longer_twice = refl

-- "The same index in both lists is fine."
indexes_both : indexes_valid (plain 0 Extract) wide (by 5 7) (by 1 1) (1 ∷ 0 ∷ []) (0 ∷ 1 ∷ []) ≡ true
unfolding indexes_valid list_valid all ◌and◌
indexes_both = refl

indexes_first : indexes_valid (plain 0 Extract) wide (by 5 7) (by 1 1) (1 ∷ 1 ∷ []) (0 ∷ 1 ∷ []) ≡ false
unfolding indexes_valid list_valid all ◌and◌
indexes_first = refl

indexes_second : indexes_valid (plain 0 Extract) wide (by 5 7) (by 1 1) (0 ∷ 1 ∷ []) (1 ∷ 1 ∷ []) ≡ false
unfolding indexes_valid list_valid all ◌and◌
indexes_second = refl

-- rows and columns of A "as transposed", rows by the first list
indexes_within : indexes_valid (plain 0 Extract) wide (by 5 7) (by 1 1) (1 ∷ []) (2 ∷ []) ≡ true
unfolding indexes_valid list_valid all ◌and◌
indexes_within = refl

indexes_past : indexes_valid (plain 0 Extract) wide (by 5 7) (by 1 1) (2 ∷ []) (1 ∷ []) ≡ false
unfolding indexes_valid list_valid all ◌and◌
indexes_past = refl

indexes_transposed : indexes_valid (plain 8 Extract) wide (by 5 7) (by 1 1) (2 ∷ []) (1 ∷ []) ≡ true
unfolding indexes_valid list_valid all ◌and◌
indexes_transposed = refl

-- a call without lists is not asked for any
indexes_none : indexes_valid (plain 0 mxm) wide (by 5 7) (by 1 1) [] [] ≡ true
unfolding indexes_valid list_valid all ◌and◌
indexes_none = refl

-- ---- document 02, A14

-- "A (as transposed) has the list lengths as its shape, and that need not be C's shape (8)."
abbrev assigns : Call → Grid → Grid → Grid → Bool
assigns call a m c = shapes_agree call a (by 5 7) m c (1 ∷ []) (2 ∷ 0 ∷ [])

assign_agrees : assigns (plain 0 assign) (by 1 2) (by 1 1) (by 4 3) ≡ true
unfolding shapes_agree ◌and◌
assign_agrees = refl

assign_turned : assigns (plain 0 assign) (by 2 1) (by 1 1) (by 4 3) ≡ false
unfolding shapes_agree ◌and◌
assign_turned = refl

assign_transposed : assigns (plain 8 assign) (by 2 1) (by 1 1) (by 4 3) ≡ true
unfolding shapes_agree ◌and◌
assign_transposed = refl

assign_larger : assigns (plain 0 assign) (by 4 3) (by 1 1) (by 4 3) ≡ false
unfolding shapes_agree ◌and◌
assign_larger = refl

-- "The mask has C's shape and covers all of C."
assign_mask : assigns (masked 0 assign) (by 1 2) (by 4 3) (by 4 3) ≡ true
unfolding shapes_agree ◌and◌
assign_mask = refl

assign_mask_listed : assigns (masked 0 assign) (by 1 2) (by 1 2) (by 4 3) ≡ false
unfolding shapes_agree ◌and◌
assign_mask_listed = refl

-- "No index stands twice or past C; here 7 is counted against C and not against A": past A and within C, and within A and
-- past C
assign_past_first : indexes_valid (plain 0 assign) (by 1 1) (by 5 7) (by 4 3) (3 ∷ []) (2 ∷ []) ≡ true
unfolding indexes_valid list_valid all ◌and◌
assign_past_first = refl

assign_past_output : indexes_valid (plain 0 assign) (by 5 5) (by 5 7) (by 4 3) (4 ∷ []) (2 ∷ []) ≡ false
unfolding indexes_valid list_valid all ◌and◌
assign_past_output = refl

assign_twice : indexes_valid (plain 0 assign) (by 2 1) (by 5 7) (by 4 3) (3 ∷ 3 ∷ []) (2 ∷ []) ≡ false
unfolding indexes_valid list_valid all ◌and◌
assign_twice = refl

-- A has 7 and an empty cell, for columns 2 and 0 of row 1; `wide` is old C
abbrev half : ℕ → ℕ → Cell
half k zero = Some 7
half k (suc l) = None

abbrev lone : Grid
lone = record { rows = 1; cols = 2; cell = half }

-- C after an assign of it, with a mask that has a place only at row 1 and column 2, where the call has one
abbrev corner : ℕ → ℕ → Cell
corner i j = cond (eqb i 1 and eqb j 2) (Some 1) None

abbrev assigned : Call → ℕ → ℕ → Cell
assigned call i j =
    (call_final call lone (by 5 7) (record { rows = 2; cols = 3; cell = corner }) wide (1 ∷ []) (2 ∷ 0 ∷ [])).cell i j

-- "Without an accumulator a listed place takes A's emptiness too"
assign_listed : assigned (plain 0 assign) 1 2 ≡ Some 7
unfolding call_final write_back listed_cell ◌and◌
assign_listed = refl

assign_emptied : assigned (plain 0 assign) 1 0 ≡ None
unfolding call_final write_back listed_cell ◌and◌
assign_emptied = refl

-- "a place not listed keeps old C": its column is not listed, or its row
assign_column : assigned (plain 0 assign) 1 1 ≡ Some 11
unfolding call_final write_back listed_cell ◌and◌
assign_column = refl

assign_row : assigned (plain 0 assign) 0 2 ≡ Some 2
unfolding call_final write_back listed_cell ◌and◌
assign_row = refl

-- with an accumulator a listed place has the union of old C and A, and a place not listed old C once
abbrev accumulating : Call
accumulating = record {
  flags = 0;
  known = true;
  operation = Assign (Some binary.Minus);
  vector_first = false;
  has_mask = false;
  accumulator = Some binary.Minus;
}

accumulate_listed : assigned accumulating 1 2 ≡ Some 5
unfolding call_final write_back listed_cell ◌and◌ binary_word signed word
accumulate_listed = refl

accumulate_empty : assigned accumulating 1 0 ≡ Some 10
unfolding call_final write_back listed_cell ◌and◌
accumulate_empty = refl

accumulate_unlisted : assigned accumulating 1 1 ≡ Some 11
unfolding call_final write_back listed_cell ◌and◌
accumulate_unlisted = refl

-- the mask covers all of C: outside it a listed place keeps old C, and replace empties every place, listed or not
outside_listed : assigned (masked 0 assign) 1 0 ≡ Some 10
unfolding call_final write_back listed_cell ◌and◌
outside_listed = refl

replaced_listed : assigned (masked 1 assign) 1 0 ≡ None
unfolding call_final write_back listed_cell ◌and◌
replaced_listed = refl

replaced_unlisted : assigned (masked 1 assign) 0 2 ≡ None
unfolding call_final write_back listed_cell ◌and◌
replaced_unlisted = refl

replaced_inside : assigned (masked 1 assign) 1 2 ≡ Some 7
unfolding call_final write_back listed_cell ◌and◌
replaced_inside = refl

-- the Kronecker product of 2 by 3 and 4 by 5 is 8 by 15; B may be transposed
kronecker_agrees : agree (plain 0 kronecker) (by 2 3) (by 4 5) (by 1 1) (by 8 15) ≡ true
unfolding shapes_agree ◌and◌
kronecker_agrees = refl

kronecker_turned : agree (plain 0 kronecker) (by 2 3) (by 4 5) (by 1 1) (by 15 8) ≡ false
unfolding shapes_agree ◌and◌
kronecker_turned = refl

kronecker_transposed : agree (plain 16 kronecker) (by 2 3) (by 4 5) (by 1 1) (by 10 12) ≡ true
unfolding shapes_agree ◌and◌
kronecker_transposed = refl

-- "If its shape goes past 1,000 either way it is refused by 8", also where no place is inside: 1,000 and 1,040 rows
kronecker_most : agree (plain 2 kronecker) (by 40 1) (by 25 1) (by 1 1) (by 1000 1) ≡ true
unfolding shapes_agree ◌and◌
kronecker_most = refl

kronecker_past : agree (plain 2 kronecker) (by 40 1) (by 26 1) (by 1 1) (by 1000 1) ≡ false
unfolding shapes_agree ◌and◌
kronecker_past = refl

-- "entry (i·p + k, j·q + l) from A(i,j) and a p by q B(k,l)", A's value first: with `wide` and a 2 by 4 B that has 3k + l,
-- place (3, 8) is by A(1,2) and B(1,0), and place (2, 7) by A(1,1) and B(0,3)
abbrev block : Grid
block = record { rows = 2; cols = 4; cell = λ k l. Some (3 * k + l) }

kronecker_cell : (call_result (plain 0 kronecker) wide block (by 4 12) [] []).cell 3 8 ≡ Some 9
unfolding binary_word signed word
kronecker_cell = refl

kronecker_next : (call_result (plain 0 kronecker) wide block (by 4 12) [] []).cell 2 7 ≡ Some 8
unfolding binary_word signed word
kronecker_next = refl

-- ---- which operand is first, and which operator is which

-- the operator of an intersection takes the first input's value first; of a union too, and a lone value is passed
intersect_order : intersect binary.Minus (Some 9) (Some 4) ≡ Some 5
unfolding binary_word signed word
intersect_order = refl

unite_order : unite binary.Minus (Some 9) (Some 4) ≡ Some 5
unfolding binary_word signed word
unite_order = refl

unite_lone : unite binary.Minus None (Some 4) ≡ Some 4
unite_lone = refl

-- old C first
accumulated_order : accumulated (Some binary.Minus) (Some 9) (Some 4) ≡ Some 5
unfolding binary_word signed word
accumulated_order = refl

-- the smaller of 3 + 4 and 5 + 1, and not the sum of the smaller ones; MINUS takes A's value first
dot_sums : dot monoid.Min binary.Plus 2 (pick 3 5) (pick 4 1) ≡ Some 6
unfolding dot binary_word signed word
dot_sums = refl

dot_order : dot monoid.Plus binary.Minus 2 (pick 9 5) (pick 4 1) ≡ Some 9
unfolding dot binary_word signed word
dot_order = refl

-- the scalar first, and second
scalar_first_lem : apply_cell (BinaryScalarFirst binary.Minus 15) 0 0 (Some 10) ≡ Some 5
unfolding entry_word binary_word signed word
scalar_first_lem = refl

scalar_second_lem : apply_cell (BinaryScalarSecond binary.Minus 15) 0 0 (Some 20) ≡ Some 5
unfolding entry_word binary_word signed word
scalar_second_lem = refl

-- FIRST, SECOND, and MAX by the sign: of -1 and 1
first_value : binary_word binary.First 3 4 ≡ 3
unfolding binary_word signed word
first_value = refl

second_value : binary_word binary.Second 3 4 ≡ 4
unfolding binary_word signed word
second_value = refl

larger_value : binary_word binary.Max 4294967295 1 ≡ 1
unfolding binary_word signed word
larger_value = refl
