-- The parts of an operation on a store: what each function requires and leaves.
use Rattle.std.specs.Prelude.{ℕ, ◌≤◌, ◌<◌, ◌≡◌, cond, List, ◌++◌, length, take, leb, Result, Ok, Err}
use Rattle.limits.specs.Limits.{slot_count, max_entries}
use Rattle.answers.specs.Answers.{Answer}
use Rattle.answers.specs.Refusals.{accepted, refused, unless_refused, insufficient_space}
use Rattle.answers.specs.declared.Refusal.{Refusal}
use Rattle.answers.specs.Results.{number}
use Rattle.grid.specs.Entries.{entry_count}
use Rattle.grid.specs.Revision.{updating, revision_after}
use Rattle.matrix.specs.Layout.{rows, size_of}
use Rattle.encoding.specs.Encode.{encode_revised, grid_size}
use Rattle.operations.specs.declared.Call.{Call}
use Rattle.refusals.specs.Cases.{Case, first_applying, number_cases}
use Rattle.slots.specs.Sections.{end_from, slot_at}
use Rattle.slots.specs.Facts.{Held, Store}
use Rattle.slots.specs.Room.{slot_put, words_with}
use Rattle.model.specs.declared.Roles.{Roles}
use Rattle.model.specs.Model.{Model, revision_at}
use Rattle.model.specs.Effects.{wrote}
use Rattle.model.specs.Calls.{
  Operate,
  no_slot,
  no_grid,
  fit_cases,
  operated,
  role_cases,
  agreements_of,
  operation_cases,
  operation_effect,
}
use Rattle.store_encoding.specs.Stores.{Effected}

-- an operation, its numbers and slots decoded
abbrev pub asked : Call → Roles → List ℕ → List ℕ → ℕ → Operate
asked call roles is js work = record { call = call; roles = roles; is = is; js = js; work = work }

-- an operation on any words
abbrev pub Operated : List ℕ → Operate → Answer → List ℕ → Type 0
Operated s o answer s' = Effected s (operation_effect o) (wrote answer) s'

unfoldable pub operation_refusal : ℕ → Model → Operate → ℕ
operation_refusal n m o = first_applying (operation_cases n m o)

-- 12 for slots past the last, 1 and 2, 13
unfoldable pub roles_refusal : Model → Call → Roles → ℕ
roles_refusal m call r = first_applying (role_cases no_slot r ++ (number_cases call ++ role_cases (no_grid m) r))

-- every slot that is named is one
pub record InStore (r : Roles) : Type 0 where
  pub first : r.first < slot_count
  pub second : r.second < slot_count
  pub mask : r.mask < slot_count
  pub output : r.output < slot_count

-- and holds a matrix
pub record Holding (s : List ℕ) (r : Roles) : Type 0 where
  pub slots : InStore r
  pub first : Held (slot_at s r.first)
  pub second : Held (slot_at s r.second)
  pub mask : Held (slot_at s r.mask)
  pub output : Held (slot_at s r.output)

-- 10 and 11 of an operation, on a store of n words
abbrev pub outputs_of : Model → Operate → ℕ → List Case
outputs_of m o n = fit_cases n m o.roles.output (operated m o)

-- a refusal by 7 to 9, or by 10: the store's length does not matter
pub record RefusedBy (code : ℕ) (m : Model) (o : Operate) : Type 0 where
  pub some : code ≡ 0 → ⊥
  pub applying_is : (n : ℕ) → code ≡ first_applying (agreements_of m o ++ outputs_of m o n)

-- the revision of C after the call
abbrev pub output_next : Model → Operate → ℕ
output_next m o = revision_after updating (revision_at m o.roles.output)

-- none of 7 to 10 applies, and the writing of the final C is at the front of the workspace
pub record DoneBy (n : ℕ) (m : Model) (o : Operate) (w : List ℕ) : Type 0 where
  pub agrees : first_applying (agreements_of m o) ≡ 0
  pub count : n ≡ entry_count (operated m o)
  pub few : n ≤ max_entries
  pub written : take (grid_size (operated m o)) w ≡ encode_revised (output_next m o) (operated m o)

abbrev pub Evaluation : Result ℕ Refusal → Model → Operate → List ℕ → Type 0
Evaluation (Ok n) m o w = DoneBy n m o w
Evaluation (Err r) m o w = RefusedBy (number r) m o

-- slot k holds a matrix, and one of n entries with as many rows is at the front of w
pub record ToCommit (s : List ℕ) (k end : ℕ) (w : List ℕ) (n : ℕ) : Type 0 where
  pub store : Store s
  pub slot : k < slot_count
  pub held : Held (slot_at s k)
  pub ends : end ≡ end_from slot_count s
  pub few : n ≤ max_entries
  pub there : size_of (rows (slot_at s k)) n ≤ length w

-- n entries from the front of w put into slot k, if there is room
abbrev pub commit_answer : List ℕ → ℕ → ℕ → Answer
commit_answer s k n =
    cond (leb (words_with s k (size_of (rows (slot_at s k)) n)) (length s)) (accepted n) (refused insufficient_space)

pub record Committed (s : List ℕ) (k : ℕ) (w : List ℕ) (n : ℕ) (answer : Answer) (s' : List ℕ) : Type 0 where
  pub answer_is : answer ≡ commit_answer s k n
  pub words_are : s' ≡ unless_refused answer s (slot_put s k (take (size_of (rows (slot_at s k)) n) w))
