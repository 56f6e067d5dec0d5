-- A result for each answer that a call may give: the number of entries, or the refusal of its number.
use Rattle.std.proofs.Common.{ℕ, ◌≡◌, ◌<◌, ap, Bool, true, false, cond, List, ◌++◌, length, Result, Ok, Err, arith}
use native.Mathlib.Decide.{ℕ_discrete}
use borrow.Author.Tests.{eq-eqb, ne_eqb}
use Rattle.answers.specs.Answers.{Answer}
use Rattle.answers.specs.Refusals.{refused}
use Rattle.answers.specs.declared.Refusal.{Refusal}
use Rattle.answers.specs.Results.{answer}
use Rattle.answers.proofs.Numbers.{number_limit, refusal_numbered}
use Rattle.grid.specs.Grid.{Grid}
use Rattle.grid.specs.Entries.{entry_count}
use Rattle.operations.specs.declared.Call.{Call}
use Rattle.matrix.specs.Layout.{grid_of}
use Rattle.encoding.specs.Encode.{grid_size}
use Rattle.refusals.specs.Cases.{Case, first_applying, number_cases, agreement_cases, output_cases, first_of, answer_for}
use Rattle.refusals.proofs.Codes.{Coded, coded_append, applying_numbered, numbers_coded, agreements_coded, outputs_coded}
use Rattle.requests.specs.Refusal.{matrix_cases, input_refusal, lent_refusal, lent_final}

first_below : (n m : ℕ) → n < number_limit → m < number_limit → first_of n m < number_limit
first_below n m l k = go (ℕ_discrete n 0)
  where
    go : Dec (n ≡ 0) → first_of n m < number_limit
    go (yes z) = rw (eq-eqb n 0 z) k
    go (no z) = rw (ne_eqb n 0 z) l

module _ (call : Call) (a b m c is js : List ℕ) (work : ℕ) where
  abbrev agreements : List Case
  agreements = agreement_cases call (grid_of a) (grid_of b) (grid_of m) (grid_of c) is js work

  abbrev outputs : List Case
  outputs =
      let g = lent_final call a b m c is js in output_cases g (grid_size g) (length c)

  lent_below : lent_refusal call a b m c is js work < number_limit
  unfolding lent_refusal input_refusal
  lent_below =
      let matrices : Coded (matrix_cases call a b m c) =
      (omega arith, (omega arith, (omega arith, (omega arith, tt)))) in
      first_below (first_applying (number_cases call ++ (matrix_cases call a b m c ++ agreements))) (first_applying outputs)
      (applying_numbered (number_cases call ++ (matrix_cases call a b m c ++ agreements))
      (coded_append (number_cases call) (matrix_cases call a b m c ++ agreements) (numbers_coded call)
      (coded_append (matrix_cases call a b m c) agreements matrices
      (agreements_coded call (grid_of a) (grid_of b) (grid_of m) (grid_of c) is js work))))
      (applying_numbered outputs
      (outputs_coded (lent_final call a b m c is js) (grid_size (lent_final call a b m c is js)) (length c)))

-- a result with a given answer
pub record Answered (a : Answer) : Type 0 where
  pub result : Result ℕ Refusal
  pub result_is : answer result ≡ a

answered : (n : ℕ) (g : Grid) → n < number_limit → Answered (answer_for n g)
answered n g l = go (ℕ_discrete n 0)
  where
    go : Dec (n ≡ 0) → Answered (answer_for n g)
    go (yes z) = record { result = Ok (entry_count g); result_is = rw (eq-eqb n 0 z) }
    go (no z) =
        let r = refusal_numbered n z l in
        rw (ne_eqb n 0 z) record { result = Err r.refusal; result_is = ap refused r.number_is }

pub lent_answered : (call : Call) (a b m c is js : List ℕ) (work : ℕ)
    → Answered (answer_for (lent_refusal call a b m c is js work) (lent_final call a b m c is js))
lent_answered call a b m c is js work = answered _ _ (lent_below call a b m c is js work)
