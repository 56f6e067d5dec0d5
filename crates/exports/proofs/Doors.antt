-- What a caller takes out of the answer of "keys behind doors" is what was packed.
use Prim.Native.Nat.{ℕ, ◌<◌}
use native.Mathlib.Omega.{arith}
use mathlib.Core.Path.{ap}
use mathlib.Core.List.{List, ◌++◌}
use lib.ListN.{length}
use Rattle.answers.specs.Answers.{Answer}
use Rattle.answers.specs.Refusals.{code_limit}
use Rattle.refusals.proofs.Codes.{Coded, coded_append, applying_coded}
use Rattle.key_requests.specs.Refusal.{input_cases, output_cases, lent_doors, doors_refusal}
use Rattle.key_calls.specs.Doors.{doors_answer}
use Rattle.exports.specs.Unpacked.{Unpacked}
use Rattle.exports.specs.Doors.{LentDoors}
use Rattle.exports.proofs.Codes.{answer_small}
use Rattle.exports.proofs.Unpacking.{unpacked}

module _ (allowance : ℕ) (locks cabinets hand : List ℕ) (work room : ℕ) where
  inputs : Coded (input_cases allowance locks cabinets hand work)
  inputs = (omega arith, (omega arith, (omega arith, (omega arith, (omega arith, (omega arith, tt))))))

  doors_small : (doors_answer allowance locks cabinets hand work room).code < code_limit
  unfolding doors_refusal
  doors_small =
      let first = input_cases allowance locks cabinets hand work in
      let last = output_cases (lent_doors allowance locks cabinets hand) room in
      answer_small (doors_refusal allowance locks cabinets hand work room) (lent_doors allowance locks cabinets hand)
      (applying_coded (first ++ last) (coded_append first last inputs (omega arith, tt)))

pub doors_unpacked : (allowance : ℕ) (locks cabinets hand out work : List ℕ) (r : ℕ) (out' work' : List ℕ)
    (h : LentDoors allowance locks cabinets hand out work r out' work') → Unpacked r h.answer
doors_unpacked allowance locks cabinets hand out work r out' work' h =
    let k = doors_small allowance locks cabinets hand (length work) (length out) in
    let p = ap (λ (x : Answer). x.code) h.done.attempted.answer_is in
    unpacked r h.answer h.packed_is (omega arith)
