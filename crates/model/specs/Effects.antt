-- What a call does to the model, in one record for each call: its refusals in their order and, where none applies, what
-- changes and what is answered. The reply and the model afterwards follow from it.
use Rattle.std.specs.Prelude.{ℕ, cond, List, eqb}
use Rattle.answers.specs.Answers.{Answer}
use Rattle.answers.specs.Answers.{CellAnswer}
use Rattle.answers.specs.Answers.{NumberAnswer}
use Rattle.answers.specs.Refusals.{accepted, refused}
use Rattle.answers.specs.Reads.{refused_read}
use Rattle.answers.specs.Numbers.{refused_number}
use Rattle.grid.specs.Grid.{Grid}
use Rattle.grid.specs.Entries.{entry_count}
use Rattle.grid.specs.Revision.{Writing, revision_after}
use Rattle.refusals.specs.Cases.{Case, first_applying}
use Rattle.model.specs.Model.{Slot, holding, Model, put, revision_at}

-- an answer: of a call that writes, of a read, or of a reduction to a number
pub data Reply : Type 0 where
  wrote : Answer → Reply
  found : CellAnswer → Reply
  totalled : NumberAnswer → Reply

-- the refusal number of a reply, or 0
abbrev pub code_of : Reply → ℕ
code_of (wrote answer) = answer.code
code_of (found answer) = answer.code
code_of (totalled answer) = answer.code

-- which of them a call gives
pub data Kind : Type 0 where
  writing : Kind
  reading : Kind
  totalling : Kind

-- "A refused call .. answers its number and 0."
abbrev pub refused_as : Kind → ℕ → Reply
refused_as writing code = wrote (refused code)
refused_as reading code = found (refused_read code)
refused_as totalling code = totalled (refused_number code)

-- what an accepted call changes: nothing, or one slot
pub data Change : Type 0 where
  keeps : Change
  puts : (slot : ℕ) → Slot → Change

abbrev pub changed : Model → Change → Model
changed m keeps = m
changed m (puts k x) = put m k x

-- of a store of n words that holds m
pub record Effect : Type 0 where
  pub kind : Kind
  pub cases : (n : ℕ) (m : Model) → List Case
  pub change : (m : Model) → Change
  pub answer : (m : Model) → Reply

-- a call that puts a grid into slot k: "Lay, set, clear and the operations answer 0 and the number of values in the grid
-- written." Its revision is the one after the slot's, or 0 where the grid is made anew (document 02, A12).
abbrev pub putting_grid : Writing → ℕ → (Model → Grid) → (ℕ → Model → List Case) → Effect
putting_grid how k grid cases = record {
  kind = writing;
  cases = cases;
  change = λ m. puts k (holding (revision_after how (revision_at m k)) (grid m));
  answer = λ m. wrote (accepted (entry_count (grid m)));
}

-- the first refusal that applies, or 0
abbrev pub refusal_of : Effect → ℕ → Model → ℕ
refusal_of e n m = first_applying (e.cases n m)

-- "A refused call changes nothing"
abbrev pub unless : ℕ → Model → Model → Model
unless code old new = cond (eqb code 0) new old

-- the reply, and the model afterwards
unfoldable pub reply_of : Effect → ℕ → Model → Reply
reply_of e n m = cond (eqb (refusal_of e n m) 0) (e.answer m) (refused_as e.kind (refusal_of e n m))

unfoldable pub next_of : Effect → ℕ → Model → Model
next_of e n m = unless (refusal_of e n m) m (changed m (e.change m))
