-- What an exported call answers and leaves: the call's own definitions, with the answer in one number r.
use Rattle.std.specs.Prelude.{ℕ, ◌≡◌, not, cond, List, eqb, None, Some}
use Rattle.answers.specs.Answers.{Answer}
use Rattle.answers.specs.Answers.{CellAnswer}
use Rattle.answers.specs.Answers.{NumberAnswer}
use Rattle.row_view.specs.declared.Section.{Section}
use Rattle.row_view.specs.declared.Section.TheVariants.{Columns, Values}
use Rattle.create.specs.Create.{Created}
use Rattle.operations.specs.declared.Call.{Call}
use Rattle.call_codes.specs.declared.Options.{Options}
use Rattle.calls.specs.Completion.{Completed}
use Rattle.model.specs.declared.Roles.{Roles}
use Rattle.model.specs.Effects.{wrote, found, totalled}
use Rattle.model.specs.Calls.{StoreCall}
use Rattle.store_encoding.specs.Stores.{reply_on, Performed}
use Rattle.exports.specs.Packing.{packed, packed_cell, packed_number}

-- the flags, whether there is a mask, and the accumulator's number if there is one; 0 is no, any other number is yes
abbrev pub options_of : ℕ → ℕ → ℕ → ℕ → Options
options_of flags mask accumulated number = record {
  flags = flags;
  has_mask = not (eqb mask 0);
  accumulator = cond (eqb accumulated 0) None (Some number);
}

-- the slots that a call names for A, B, the mask and C
abbrev pub roles_named : ℕ → ℕ → ℕ → ℕ → Roles
roles_named a b m c = record { first = a; second = b; mask = m; output = c }

-- column numbers or values: 0 asks for the column numbers, any other number for the values
abbrev pub section_of : ℕ → Section
section_of values = cond (eqb values 0) Columns Values

-- an empty matrix in a lent buffer
pub record LentCreated (w : List ℕ) (rows cols r : ℕ) (w' : List ℕ) : Type 0 where
  pub answer : Answer
  pub packed_is : r ≡ packed answer
  pub done : Created w rows cols answer w'

-- an operation on lent matrices: C's buffer and the workspace afterwards are c' and w'
pub record LentCompleted (call : Call) (a b m c is js w : List ℕ) (r : ℕ) (c' w' : List ℕ) : Type 0 where
  pub answer : Answer
  pub packed_is : r ≡ packed answer
  pub done : Completed call a b m c is js w answer c' w'

-- a call on a store that may write
pub record StorePerformed (s : List ℕ) (call : StoreCall) (r : ℕ) (s' : List ℕ) : Type 0 where
  pub answer : Answer
  pub packed_is : r ≡ packed answer
  pub done : Performed s call (wrote answer) s'

-- a read of a store
pub record StoreRead (s : List ℕ) (call : StoreCall) (r : ℕ) : Type 0 where
  pub answer : CellAnswer
  pub packed_is : r ≡ packed_cell answer
  pub done : found answer ≡ reply_on s call

-- a slot of a store reduced to a number
pub record StoreTotalled (s : List ℕ) (call : StoreCall) (r : ℕ) : Type 0 where
  pub answer : NumberAnswer
  pub packed_is : r ≡ packed_number answer
  pub done : totalled answer ≡ reply_on s call
