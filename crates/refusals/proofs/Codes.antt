-- Every case of a refusal has the number of one. Cited where an answer is packed into one number, and where a result is
-- found for an answer.
use Prim.Native.Nat.{ℕ, ◌<◌}
use native.Mathlib.Omega.{arith}
use mathlib.Core.Bool.{Bool, true, false, cond}
use mathlib.Core.List.{List, [], ◌∷◌, ◌++◌}
use Rattle.answers.specs.Refusals.{code_limit}
use Rattle.answers.proofs.Numbers.{number_limit}
use Rattle.grid.specs.Grid.{Grid}
use Rattle.operations.specs.declared.Call.{Call}
use Rattle.refusals.specs.Cases.{Case, first_applying, number_cases, agreement_cases, output_cases}

-- every case has one
abbrev pub Coded : List Case → Type 0
Coded [] = Unit {0}
Coded (x ∷ xs) = (x.number < number_limit) × Coded xs

pub coded_append : (xs ys : List Case) → Coded xs → Coded ys → Coded (xs ++ ys)
coded_append [] ys h k = k
coded_append (x ∷ xs) ys h k = (h.0, coded_append xs ys h.1 k)

either : (b : Bool) (x y : ℕ) → x < number_limit → y < number_limit → cond b x y < number_limit
either true x y h k = h
either false x y h k = k

-- so has the first that applies, or it is 0
pub applying_numbered : (xs : List Case) → Coded xs → first_applying xs < number_limit
applying_numbered [] h = omega arith
applying_numbered (x ∷ xs) h = either x.applies x.number (first_applying xs) h.0 (applying_numbered xs h.1)

pub applying_coded : (xs : List Case) → Coded xs → first_applying xs < code_limit
applying_coded xs h = let l = applying_numbered xs h in omega arith

-- 1 and 2; 7 to 9; 10 and 11
pub numbers_coded : (call : Call) → Coded (number_cases call)
numbers_coded call = (omega arith, (omega arith, tt))

pub agreements_coded : (call : Call) (a b m c : Grid) (is js : List ℕ) (work : ℕ)
    → Coded (agreement_cases call a b m c is js work)
agreements_coded call a b m c is js work = (omega arith, (omega arith, (omega arith, tt)))

pub outputs_coded : (g : Grid) (needed room : ℕ) → Coded (output_cases g needed room)
outputs_coded g needed room = (omega arith, (omega arith, tt))
