-- All that is promised of the calls on a store, of these very functions: that the code of each meets its contract and a
-- caller learns what that says, that no call asks anything of its caller, what each contract tells for any words, and the
-- claim over every list; and of the calls that hosts make.
use Rattle.std.specs.Prelude.{ℕ, ◌≡◌, List}
use contract.Lifetimes.{Lfts}
use Rattle.model.specs.Effects.{Reply, code_of}
use Rattle.model.specs.Calls.{StoreCall}
use Rattle.store_encoding.specs.Stores.{Performed}
use Rattle.histories.specs.Functions.{Step, Met, Known, Free, Cleared, StackCleared}
use Rattle.histories.specs.Hosts.{HostStep, HostFunctions}
use Rattle.histories.specs.Lists.{Runs, Claim, Resumed, EqualWords, HostTold, HostClaim, HostResumed}

-- a step of a call on the words s
pub record Possible (s : List ℕ) (c : StoreCall) : Type 0 where
  pub answer : Reply
  pub after : List ℕ
  pub step : Step s c answer after

-- a run of a list of calls on the words s
pub record PossibleRun (s : List ℕ) (cs : List StoreCall) : Type 0 where
  pub answers : List Reply
  pub after : List ℕ
  pub runs : Runs s cs answers after

pub record Promise : Type 3 where
  -- the code meets the contracts, and callers learn what these say
  pub met : Met
  pub known : Known
  pub free : Free
  -- any words, stores and others
  pub told : {s s' : List ℕ} {c : StoreCall} {r : Reply} → Step s c r s' → Performed s c r s'
  -- "A refused call changes nothing"
  pub kept : {s s' : List ℕ} {c : StoreCall} {r : Reply} → Step s c r s' → (code_of r ≡ 0 → ⊥) → s' ≡ s
  pub cleared : Cleared
  pub stack_cleared : StackCleared
  -- there is a step of every call on any words, and so a run of every list
  pub possible : Lfts 1 → Lfts 4 → (s : List ℕ) (c : StoreCall) → Possible s c
  pub every_run : Lfts 1 → Lfts 4 → (s : List ℕ) (cs : List StoreCall) → PossibleRun s cs
  -- every list of calls, on a fresh store and on any
  pub every : Claim
  pub resumed : Resumed
  pub equal_words : EqualWords
  -- and of the calls that hosts make: their functions, what each step tells of any words, every list
  pub hosts : HostFunctions
  pub host_told : {s s' : List ℕ} {c : StoreCall} {r : ℕ} → HostStep s c r s' → HostTold s c r s'
  pub host_kept : {s s' : List ℕ} {c : StoreCall} {r : ℕ} → (t : HostStep s c r s')
      → (code_of (host_told t).reply ≡ 0 → ⊥) → s' ≡ s
  pub host_every : HostClaim
  pub host_resumed : HostResumed
