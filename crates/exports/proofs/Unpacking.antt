-- What a caller takes out of an answer is what was packed: one theorem for each kind of exported call.
use Prim.Native.Nat.{ℕ, ◌+◌, ◌*◌, ◌<◌, ◌%◌, ◌/◌}
use mathlib.Core.Path.{◌≡◌, refl, ap}
use mathlib.Core.Bool.{Bool, true, false, cond}
use mathlib.Core.List.{List}
use native.Mathlib.Omega.{arith}
use lib.ListN.{length}
use Rattle.answers.specs.Answers.{Answer}
use Rattle.matrix.specs.Valid.{check_answer}
use Rattle.answers.specs.Answers.{CellAnswer}
use Rattle.cells.specs.Read.{read_answer}
use Rattle.answers.specs.Answers.{NumberAnswer}
use Rattle.reduce.specs.Reduce.{reduce_answer}
use Rattle.row_view.specs.declared.Section.{Section}
use Rattle.row_view.specs.declared.Place.{Place}
use Rattle.row_view.specs.View.{row_view, place_of}
use Rattle.operations.specs.declared.Call.{Call}
use Rattle.model.specs.Calls.{StoreCall, read_cell}
use Rattle.exports.specs.Packing.{
  code_limit,
  upper_word,
  present_bit,
  position_unit,
  packed,
  packed_cell,
  SmallRead,
  packed_number,
  second_bit,
  packed_place,
  SmallPlace,
  count_limit,
}
use Rattle.exports.specs.Unpacked.{Unpacked, UnpackedCell, UnpackedNumber, UnpackedPlace}
use Rattle.exports.specs.Exported.{LentCreated, LentCompleted, StorePerformed, StoreRead, StoreTotalled}
use Rattle.exports.proofs.Codes.{
  check_small,
  create_small,
  read_small,
  reduce_small,
  place_small,
  lent_small,
  store_small,
  store_read_small,
  store_total_small,
}

pub unpacked : (r : ℕ) (a : Answer) → r ≡ packed a → a.code < code_limit → Unpacked r a
unpacked r a e h = record { code = omega arith; entries = omega arith }

unpacked_number : (r : ℕ) (a : NumberAnswer) → r ≡ packed_number a → a.code < code_limit → UnpackedNumber r a
unpacked_number r a e h = record { code = omega arith; value = omega arith }

pub unpacked_cell : (r : ℕ) (a : CellAnswer) → r ≡ packed_cell a → SmallRead a → UnpackedCell r a
unpacked_cell r a e h = record {
  code = code a.present e;
  present = present a.present e;
  position = position a.present e;
  value = value a.present e;
}
  where
    packed_as : Bool → ℕ
    packed_as b = a.code + present_bit b + a.position * position_unit + a.value * upper_word

    code : (b : Bool) → r ≡ packed_as b → r % code_limit ≡ a.code
    code true e = omega (arith, h.code)
    code false e = omega (arith, h.code)

    present : (b : Bool) → r ≡ packed_as b → r / code_limit % 2 ≡ cond b 1 0
    present true e = omega (arith, h.code)
    present false e = omega (arith, h.code)

    position : (b : Bool) → r ≡ packed_as b → r / position_unit % position_unit ≡ a.position
    position true e = omega (arith, h.code, h.position)
    position false e = omega (arith, h.code, h.position)

    value : (b : Bool) → r ≡ packed_as b → r / upper_word ≡ a.value
    value true e = omega (arith, h.code, h.position)
    value false e = omega (arith, h.code, h.position)

pub unpacked_place : (p : Place) → SmallPlace p → UnpackedPlace (packed_place p) p
unpacked_place p h = record {
  in_second = in_second p.in_second;
  count = count p.in_second;
  from = from p.in_second;
}
  where
    packed_as : Bool → ℕ
    packed_as b = second_bit b + p.count * code_limit + p.from * upper_word

    in_second : (b : Bool) → packed_as b % 2 ≡ second_bit b
    in_second true = omega arith
    in_second false = omega arith

    count : (b : Bool) → packed_as b / code_limit % count_limit ≡ p.count
    count true = omega (arith, h.count)
    count false = omega (arith, h.count)

    from : (b : Bool) → packed_as b / upper_word ≡ p.from
    from true = omega (arith, h.count)
    from false = omega (arith, h.count)

pub check_unpacked : (s : List ℕ) → Unpacked (packed (check_answer s)) (check_answer s)
check_unpacked s = unpacked (packed (check_answer s)) (check_answer s) refl (check_small s)

pub read_unpacked : (s : List ℕ) (i j : ℕ) → UnpackedCell (packed_cell (read_answer s i j)) (read_answer s i j)
read_unpacked s i j = unpacked_cell (packed_cell (read_answer s i j)) (read_answer s i j) refl (read_small s i j)

pub reduce_unpacked : (s : List ℕ) (monoid : ℕ)
    → UnpackedNumber (packed_number (reduce_answer s monoid)) (reduce_answer s monoid)
reduce_unpacked s monoid =
    unpacked_number (packed_number (reduce_answer s monoid)) (reduce_answer s monoid) refl (reduce_small s monoid)

pub view_unpacked : (section : Section) (a b : List ℕ) (i : ℕ)
    → UnpackedPlace (packed_place (place_of (row_view section a b i))) (place_of (row_view section a b i))
view_unpacked section a b i = unpacked_place (place_of (row_view section a b i)) (place_small section a b i)

pub created_unpacked : (w : List ℕ) (rows cols r : ℕ) (w' : List ℕ) (h : LentCreated w rows cols r w')
    → Unpacked r h.answer
created_unpacked w rows cols r w' h =
    let k = create_small w rows cols in
    let p = ap (λ (x : Answer). x.code) h.done.answer_is in
    unpacked r h.answer h.packed_is (omega arith)

pub lent_unpacked : (call : Call) (a b m c is js w : List ℕ) (r : ℕ) (c' w' : List ℕ)
    (h : LentCompleted call a b m c is js w r c' w') → Unpacked r h.answer
lent_unpacked call a b m c is js w r c' w' h =
    let k = lent_small call a b m c is js (length w) in
    let p = ap (λ (x : Answer). x.code) h.done.attempted.answer_is in
    unpacked r h.answer h.packed_is (omega arith)

pub store_unpacked : (s : List ℕ) (call : StoreCall) (r : ℕ) (s' : List ℕ) (h : StorePerformed s call r s')
    → Unpacked r h.answer
store_unpacked s call r s' h =
    unpacked r h.answer h.packed_is (store_small s call h.answer h.done.answer_is)

pub store_read_unpacked : (s : List ℕ) (k i j r : ℕ) (h : StoreRead s (read_cell k i j) r) → UnpackedCell r h.answer
store_read_unpacked s k i j r h =
    unpacked_cell r h.answer h.packed_is (store_read_small s k i j h.answer h.done)

pub store_total_unpacked : (s : List ℕ) (call : StoreCall) (r : ℕ) (h : StoreTotalled s call r)
    → UnpackedNumber r h.answer
store_total_unpacked s call r h =
    unpacked_number r h.answer h.packed_is (store_total_small s call h.answer h.done)
