-- What a caller takes out of the answers of the calls on a day matrix over a base matrix is what was packed.
use Prim.Native.Nat.{ℕ, ◌<◌}
use native.Mathlib.Omega.{arith}
use mathlib.Core.Path.{◌≡◌, refl, ap}
use mathlib.Core.List.{List, ◌++◌}
use lib.ListN.{length}
use Rattle.answers.specs.Answers.{Answer}
use Rattle.answers.specs.Refusals.{code_limit}
use Rattle.encoding.specs.Encode.{grid_size}
use Rattle.refusals.specs.Cases.{output_cases}
use Rattle.refusals.proofs.Codes.{Coded, coded_append, applying_coded, outputs_coded}
use Rattle.row_view.specs.declared.Section.{Section}
use Rattle.row_view.specs.View.{place_of}
use Rattle.day_requests.specs.Refusal.{rewrite_cases, back_cases, back_refusal, pair_cases}
use Rattle.day_folds.specs.Folding.{lent_fold}
use Rattle.day_calls.specs.Calls.{
  day_with,
  day_without,
  written_cases,
  rewriting_refusal,
  through_answer,
  fold_refusal,
}
use Rattle.day_calls.specs.Show.{day_view}
use Rattle.day_calls.proofs.Bounds.{through_code, through_position, show_within}
use Rattle.exports.specs.Packing.{SmallRead, SmallPlace, packed_cell, packed_place}
use Rattle.exports.specs.Unpacked.{Unpacked, UnpackedCell, UnpackedPlace}
use Rattle.exports.specs.Days.{LentRewritten, LentTakenBack, LentFolded}
use Rattle.exports.proofs.Codes.{answer_small}
use Rattle.exports.proofs.Unpacking.{unpacked, unpacked_cell, unpacked_place}

-- the refusals of the three that write
rewriting_small : (day marks : List ℕ) (i : ℕ) (new : List ℕ) → rewriting_refusal day marks i new < code_limit
unfolding rewriting_refusal
rewriting_small day marks i new =
    applying_coded (rewrite_cases day marks i new ++ written_cases day marks i new)
    (coded_append (rewrite_cases day marks i new) (written_cases day marks i new)
    (omega arith, (omega arith, (omega arith, (omega arith, (omega arith, (omega arith, tt))))))
    (omega arith, (omega arith, (omega arith, tt))))

back_small : (day marks : List ℕ) (i : ℕ) → back_refusal day marks i < code_limit
unfolding back_refusal
back_small day marks i =
    applying_coded (back_cases day marks i) (omega arith, (omega arith, (omega arith, (omega arith, tt))))

fold_small : (base day marks : List ℕ) (room : ℕ) → fold_refusal base day marks room < code_limit
unfolding fold_refusal
fold_small base day marks room =
    let g = lent_fold base day marks in
    applying_coded (pair_cases base day marks ++ output_cases g (grid_size g) room)
    (coded_append (pair_cases base day marks) (output_cases g (grid_size g) room)
    (omega arith, (omega arith, (omega arith, (omega arith, (omega arith, tt)))))
    (outputs_coded g (grid_size g) room))

pub rewritten_unpacked : (day marks : List ℕ) (i : ℕ) (new : List ℕ) (r : ℕ) (day' marks' : List ℕ)
    (h : LentRewritten day marks i new r day' marks') → Unpacked r h.answer
rewritten_unpacked day marks i new r day' marks' h =
    let k = answer_small (rewriting_refusal day marks i new) (day_with day i new) (rewriting_small day marks i new) in
    let p = ap (λ (x : Answer). x.code) h.done.answer_is in
    unpacked r h.answer h.packed_is (omega arith)

pub taken_unpacked : (day marks : List ℕ) (i r : ℕ) (day' marks' : List ℕ) (h : LentTakenBack day marks i r day' marks')
    → Unpacked r h.answer
taken_unpacked day marks i r day' marks' h =
    let k = answer_small (back_refusal day marks i) (day_without day i) (back_small day marks i) in
    let p = ap (λ (x : Answer). x.code) h.done.answer_is in
    unpacked r h.answer h.packed_is (omega arith)

pub folded_unpacked : (base day marks out : List ℕ) (r : ℕ) (out' : List ℕ) (h : LentFolded base day marks out r out')
    → Unpacked r h.answer
folded_unpacked base day marks out r out' h =
    let k = answer_small (fold_refusal base day marks (length out)) (lent_fold base day marks)
    (fold_small base day marks (length out)) in
    let p = ap (λ (x : Answer). x.code) h.done.answer_is in
    unpacked r h.answer h.packed_is (omega arith)

-- a read, and a place
pub through_small : (base day marks : List ℕ) (i j : ℕ) → SmallRead (through_answer base day marks i j)
through_small base day marks i j =
    let p = through_position base day marks i j in
    record { code = through_code base day marks i j; position = omega arith }

pub through_unpacked : (base day marks : List ℕ) (i j : ℕ)
    → UnpackedCell (packed_cell (through_answer base day marks i j)) (through_answer base day marks i j)
through_unpacked base day marks i j =
    unpacked_cell (packed_cell (through_answer base day marks i j)) (through_answer base day marks i j) refl
    (through_small base day marks i j)

pub show_small : (section : Section) (base day marks : List ℕ) (i : ℕ)
    → SmallPlace (place_of (day_view section base day marks i))
show_small section base day marks i =
    let h = show_within section base day marks i in
    record { count = omega (arith, h.count); from = omega (arith, h.from) }

pub show_unpacked : (section : Section) (base day marks : List ℕ) (i : ℕ)
    → UnpackedPlace (packed_place (place_of (day_view section base day marks i)))
    (place_of (day_view section base day marks i))
show_unpacked section base day marks i =
    unpacked_place (place_of (day_view section base day marks i)) (show_small section base day marks i)
