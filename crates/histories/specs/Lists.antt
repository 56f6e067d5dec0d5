-- Demand 3: every list of calls on a store, started on all zeros, goes as the model goes. A step of a list is a call of
-- one of the functions (Functions.antt), on the words that the step before left; for hosts, of one of the exported
-- functions (Hosts.antt).
use Rattle.std.specs.Prelude.{ℕ, ◌≤◌, ◌≡◌, true, List, [], ◌∷◌, length, replicate}
use Rattle.limits.specs.Limits.{slot_count, max_store_words}
use Rattle.slots.specs.Valid.{store_valid}
use Rattle.grid.specs.Grid.{Same}
use Rattle.model.specs.Model.{Model, fresh, slot_of, is_vacant, grid_at, revision_at}
use Rattle.model.specs.Effects.{Reply, wrote, found, totalled}
use Rattle.model.specs.Calls.{StoreCall}
use Rattle.model.specs.Histories.{replies, model_after}
use Rattle.store_encoding.specs.Writing.{model_writing}
use Rattle.store_encoding.specs.Stores.{model_of, Performed}
use Rattle.exports.specs.Packing.{packed, packed_cell, packed_number}
use Rattle.exports.specs.Unpacked.{Unpacked, UnpackedCell, UnpackedNumber}
use Rattle.histories.specs.Functions.{Step}
use Rattle.histories.specs.Hosts.{HostStep}

-- ---- the calls

-- a list of calls, each on the words that the one before left
pub data Runs : List ℕ → List StoreCall → List Reply → List ℕ → Type 0 where
  end : {s : List ℕ} → Runs s [] [] s
  call : {s s' s'' : List ℕ} {c : StoreCall} {cs : List StoreCall} {r : Reply} {rs : List Reply}
      → Step s c r s' → Runs s' cs rs s'' → Runs s (c ∷ cs) (r ∷ rs) s''

-- the words after a list are the one writing of the model's grids after it
abbrev pub WordsAfter : ℕ → Model → List StoreCall → List ℕ → Type 0
WordsAfter n m cs s = s ≡ model_writing n (model_after n m cs)

-- every answer is the model's, and so are the words
pub record Follows (n : ℕ) (m : Model) (cs : List StoreCall) (rs : List Reply) (s : List ℕ) : Type 0 where
  pub answers : rs ≡ replies n m cs
  pub words : WordsAfter n m cs s

-- the claim: for every length and every list of calls, refused ones among them, started on all zeros
abbrev pub Claim : Type 0
Claim = (n : ℕ) → slot_count ≤ n → n ≤ max_store_words
    → (cs : List StoreCall) (rs : List Reply) (s : List ℕ) → Runs (replicate n 0) cs rs s → Follows n fresh cs rs s

-- the same from any store, as from one that was kept in a file: the list goes as the model goes that its words hold
abbrev pub Resumed : Type 0
Resumed = (s : List ℕ) → store_valid s ≡ true
    → (cs : List StoreCall) (rs : List Reply) (s' : List ℕ) → Runs s cs rs s' → Follows (length s) (model_of s) cs rs s'

-- two models with the same in every slot: both empty, or the same grid with the same revision
pub record SameSlots (m m' : Model) : Type 0 where
  pub vacancy : (k : ℕ) → is_vacant (slot_of m k) ≡ is_vacant (slot_of m' k)
  pub revisions : (k : ℕ) → revision_at m k ≡ revision_at m' k
  pub grids : (k : ℕ) → Same (grid_at m k) (grid_at m' k)

-- document 02, A12: "equal shelf words mean equal grids and equal revisions", after any two lists of calls
abbrev pub EqualWords : Type 0
EqualWords = (n : ℕ) → slot_count ≤ n → n ≤ max_store_words
    → (cs ds : List StoreCall) (rs qs : List Reply) (s : List ℕ)
    → Runs (replicate n 0) cs rs s → Runs (replicate n 0) ds qs s
    → SameSlots (model_after n fresh cs) (model_after n fresh ds)

-- ---- the calls that hosts make

pub data HostRuns : List ℕ → List StoreCall → List ℕ → List ℕ → Type 0 where
  end : {s : List ℕ} → HostRuns s [] [] s
  call : {s s' s'' : List ℕ} {c : StoreCall} {cs : List StoreCall} {r : ℕ} {rs : List ℕ}
      → HostStep s c r s' → HostRuns s' cs rs s'' → HostRuns s (c ∷ cs) (r ∷ rs) s''

-- an answer in one number is the reply packed and, taken apart as the header says, the reply
abbrev pub TakenApart : ℕ → Reply → Type 0
TakenApart r (wrote answer) = (r ≡ packed answer) × Unpacked r answer
TakenApart r (found answer) = (r ≡ packed_cell answer) × UnpackedCell r answer
TakenApart r (totalled answer) = (r ≡ packed_number answer) × UnpackedNumber r answer

-- what a step of a host tells, of any words
pub record HostTold (s : List ℕ) (c : StoreCall) (r : ℕ) (s' : List ℕ) : Type 0 where
  pub reply : Reply
  pub apart : TakenApart r reply
  pub performed : Performed s c reply s'

-- one by one
abbrev pub AllTakenApart : List ℕ → List Reply → Type 0
AllTakenApart [] [] = Unit {0}
AllTakenApart [] (a ∷ as') = ⊥
AllTakenApart (r ∷ rs) [] = ⊥
AllTakenApart (r ∷ rs) (a ∷ as') = TakenApart r a × AllTakenApart rs as'

pub record HostFollows (n : ℕ) (m : Model) (cs : List StoreCall) (rs : List ℕ) (s : List ℕ) : Type 0 where
  pub answers : AllTakenApart rs (replies n m cs)
  pub words : WordsAfter n m cs s

abbrev pub HostClaim : Type 0
HostClaim = (n : ℕ) → slot_count ≤ n → n ≤ max_store_words
    → (cs : List StoreCall) (rs : List ℕ) (s : List ℕ) → HostRuns (replicate n 0) cs rs s → HostFollows n fresh cs rs s

abbrev pub HostResumed : Type 0
HostResumed = (s : List ℕ) → store_valid s ≡ true
    → (cs : List StoreCall) (rs : List ℕ) (s' : List ℕ) → HostRuns s cs rs s' → HostFollows (length s) (model_of s) cs rs s'
