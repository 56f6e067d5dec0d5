-- Every code that a call answers is below `code_limit`, and every position and place is small: packing and `Unpacking` cite
-- it.
use Rattle.std.proofs.Common.{None, Option, Some}
use Rattle.operators.specs.declared.Monoid.{Monoid}
use Prim.Native.Nat.{ℕ, ◌<◌}
use mathlib.Core.Path.{◌≡◌, ap}
use mathlib.Core.Bool.{Bool, true, false, cond}
use mathlib.Core.List.{List, ◌++◌}
use native.Mathlib.Omega.{arith}
use lib.ListN.{length}
use lib.Dec.{leb, ltb, eqb}
use Rattle.limits.specs.Limits.{max_rows, max_cols}
use Rattle.answers.specs.Answers.{Answer}
use Rattle.answers.specs.Refusals.{
  invalid_first,
  index_out_of_bounds,
  invalid_shape,
  insufficient_space,
  invalid_store,
  accepted,
  refused,
  code_limit,
}
use Rattle.conditions.specs.Tests.{◌and◌}
use Rattle.grid.specs.declared.EntryAt.{EntryAt}
use Rattle.grid.specs.declared.EntryAt.TheVariants as entry
use Rattle.grid.specs.Grid.{Grid, empty_grid}
use Rattle.grid.specs.Entries.{entry_count}
use Rattle.grid.specs.Position.{entry_at}
use Rattle.matrix.specs.Layout.{rows, cols, entries, grid_of}
use Rattle.matrix.specs.Valid.{in_range, valid, check_answer}
use Rattle.encoding.specs.Encode.{grid_size}
use Rattle.create.specs.Create.{create_answer}
use Rattle.answers.specs.Answers.{CellAnswer}
use Rattle.answers.specs.Reads.{found_answer, refused_read}
use Rattle.cells.specs.Read.{read_answer}
use Rattle.cells.proofs.Positions.{read_position}
use Rattle.answers.specs.Answers.{NumberAnswer}
use Rattle.answers.specs.Numbers.{number_answer, refused_number}
use Rattle.operator_codes.specs.Codes.{monoid_numbered}
use Rattle.reductions.specs.Reductions.{grid_total}
use Rattle.reduce.specs.Reduce.{answer_by, reduce_answer}
use Rattle.row_view.specs.declared.Section.{Section}
use Rattle.row_view.specs.View.{row_view, place_of}
use Rattle.row_view.proofs.Bounds.{view_within}
use Rattle.operations.specs.declared.Call.{Call}
use Rattle.refusals.specs.Cases.{number_cases, agreement_cases, output_cases, first_of, answer_for}
use Rattle.refusals.proofs.Codes.{Coded, coded_append, applying_coded, numbers_coded, agreements_coded, outputs_coded}
use Rattle.requests.specs.Refusal.{matrix_cases, input_refusal, output_refusal, lent_refusal, lent_final}
use Rattle.calls.specs.Completion.{lent_answer}
use Rattle.slots.specs.Valid.{store_valid}
use Rattle.model.specs.Effects.{Reply, wrote, found, totalled, code_of, refused_as, reply_of}
use Rattle.model.specs.Calls.{StoreCall, read_cell, effect}
use Rattle.model.proofs.Effects.{reply_small, refused_code, effect_sound}
use Rattle.store_encoding.specs.Stores.{model_of, effect_reply, reply_on}
use Rattle.store_cells.proofs.Reading.{read_position as stored-position}
use Rattle.exports.specs.Packing.{SmallRead, SmallPlace}

abbrev Small : ℕ → Type 0
Small code = code < code_limit

abbrev SmallAnswer : Answer → Type 0
SmallAnswer a = Small a.code

abbrev SmallCode : CellAnswer → Type 0
SmallCode a = Small a.code

abbrev SmallNumber : NumberAnswer → Type 0
SmallNumber a = Small a.code

-- ---- one of two, by a test
either : (b : Bool) (x y : ℕ) → Small x → Small y → Small (cond b x y)
either true x y p q = p
either false x y p q = q

either_answer : (b : Bool) (x y : Answer) → SmallAnswer x → SmallAnswer y → SmallAnswer (cond b x y)
either_answer true x y p q = p
either_answer false x y p q = q

either_read : (b : Bool) (x y : CellAnswer) → SmallCode x → SmallCode y → SmallCode (cond b x y)
either_read true x y p q = p
either_read false x y p q = q

either_number : (b : Bool) (x y : NumberAnswer) → SmallNumber x → SmallNumber y → SmallNumber (cond b x y)
either_number true x y p q = p
either_number false x y p q = q

-- an answer by its refusal
pub answer_small : (code : ℕ) (g : Grid) → Small code → SmallAnswer (answer_for code g)
answer_small code g h = either_answer (eqb code 0) (accepted (entry_count g)) (refused code) (omega arith) h

-- ---- matrices in buffers of their own
pub check_small : (s : List ℕ) → SmallAnswer (check_answer s)
unfolding check_answer
check_small s =
    either_answer (valid s) (accepted (entries s)) (refused invalid_first) (omega arith) (omega arith)

pub create_small : (w : List ℕ) (r c : ℕ) → SmallAnswer (create_answer w r c)
unfolding create_answer
create_small w r c =
    let fits = leb (grid_size (empty_grid r c)) (length w) in
    let written = accepted (entry_count (empty_grid r c)) in
    either_answer (in_range max_rows r and in_range max_cols c) (cond fits written (refused insufficient_space))
    (refused invalid_shape)
    (either_answer fits written (refused insufficient_space) (omega arith) (omega arith)) (omega arith)

found_small : (x : EntryAt) → SmallCode (found_answer x)
found_small (entry.Present v p) = omega arith
found_small (entry.Absent p) = omega arith

read_code : (s : List ℕ) (i j : ℕ) → SmallCode (read_answer s i j)
unfolding read_answer
read_code s i j =
    let inside = ltb i (rows s) and ltb j (cols s) in
    let cell = entry_at (grid_of s) i j in
    either_read (valid s) (cond inside (found_answer cell) (refused_read index_out_of_bounds)) (refused_read invalid_first)
    (either_read inside (found_answer cell) (refused_read index_out_of_bounds) (found_small cell) (omega arith)) (omega arith)

pub read_small : (s : List ℕ) (i j : ℕ) → SmallRead (read_answer s i j)
read_small s i j = let p = read_position s i j in record { code = read_code s i j; position = omega arith }

pub reduce_small : (s : List ℕ) (monoid : ℕ) → SmallNumber (reduce_answer s monoid)
unfolding reduce_answer
reduce_small s monoid = go (monoid_numbered monoid)
  where
    go : (m : Option Monoid) → SmallNumber (answer_by m s)
    go (Some m) =
        either_number (valid s) (number_answer (grid_total m (grid_of s))) (refused_number invalid_first) (omega arith)
        (omega arith)
    go None = omega arith

-- a place lies within the largest matrix
pub place_small : (section : Section) (a b : List ℕ) (i : ℕ) → SmallPlace (place_of (row_view section a b i))
place_small section a b i =
    let h = view_within section a b i in
    record { count = omega (arith, h.count); from = omega (arith, h.from) }

module _ (call : Call) (a b m c is js : List ℕ) (work : ℕ) where
  matrices : Coded (matrix_cases call a b m c)
  matrices = (omega arith, (omega arith, (omega arith, (omega arith, tt))))

  input_small : Small (input_refusal call a b m c is js work)
  unfolding input_refusal
  input_small =
      let agreed = agreement_cases call (grid_of a) (grid_of b) (grid_of m) (grid_of c) is js work in
      applying_coded (number_cases call ++ (matrix_cases call a b m c ++ agreed))
      (coded_append (number_cases call) (matrix_cases call a b m c ++ agreed) (numbers_coded call)
      (coded_append (matrix_cases call a b m c) agreed matrices
      (agreements_coded call (grid_of a) (grid_of b) (grid_of m) (grid_of c) is js work)))

  refusal_small : Small (lent_refusal call a b m c is js work)
  unfolding lent_refusal
  refusal_small =
      let g = lent_final call a b m c is js in
      let first = input_refusal call a b m c is js work in
      either (eqb first 0) (output_refusal g (length c)) first
      (applying_coded (output_cases g (grid_size g) (length c)) (outputs_coded g (grid_size g) (length c))) input_small

  pub lent_small : SmallAnswer (lent_answer call a b m c is js work)
  lent_small = answer_small (lent_refusal call a b m c is js work) (lent_final call a b m c is js) refusal_small

-- ---- matrices in a store

-- one of two replies, by a test
either_reply : (b : Bool) (x y : Reply) → Small (code_of x) → Small (code_of y) → Small (code_of (cond b x y))
either_reply true x y p q = p
either_reply false x y p q = q

reply_on_small : (s : List ℕ) (call : StoreCall) → Small (code_of (reply_on s call))
unfolding effect_reply
reply_on_small s call =
    let e = effect call in
    either_reply (store_valid s) (reply_of e (length s) (model_of s)) (refused_as e.kind invalid_store)
    (reply_small e (length s) (model_of s) (effect_sound call))
    (let c = refused_code e.kind invalid_store in omega arith)

pub store_small : (s : List ℕ) (call : StoreCall) (a : Answer) → wrote a ≡ reply_on s call → SmallAnswer a
store_small s call a e = let h = reply_on_small s call in let p = ap code_of e in omega arith

pub store_read_small : (s : List ℕ) (k i j : ℕ) (a : CellAnswer) → found a ≡ reply_on s (read_cell k i j) → SmallRead a
store_read_small s k i j a e =
    let h = reply_on_small s (read_cell k i j) in
    let c = ap code_of e in
    let p = stored-position s k i j a e in
    record { code = omega arith; position = omega arith }

pub store_total_small : (s : List ℕ) (call : StoreCall) (a : NumberAnswer) → totalled a ≡ reply_on s call → SmallNumber a
store_total_small s call a e = let h = reply_on_small s call in let p = ap code_of e in omega arith
