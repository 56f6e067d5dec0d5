-- Document 02, A3, on a store: slots merged into one slot by the store's apply call leave the same words in whatever
-- order they come; and however often, but for the revision of that slot (A12: "A3's claim speaks of grids only"). A run is that of `histories`: its steps are known by the contract of
-- `store_calls::operate`, which `histories/specs/Promise` shows to be met and to ask nothing.
use Rattle.std.specs.Prelude.{ℕ, zero, suc, ◌≤◌, ◌<◌, ◌≡◌, true, false, List, [], ◌∷◌, ◌++◌, map, length}
use contract.Lifetimes.{Lfts}
use Rattle.limits.specs.Limits.{slot_count, max_entries}
use Rattle.limits.specs.Sizes.{workspace_words}
use Rattle.grid.specs.Grid.{Grid}
use Rattle.grid.specs.Entries.{entry_count}
use Rattle.grid.specs.Revision.{next_revision}
use Rattle.slots.specs.Valid.{store_valid}
use Rattle.model.specs.Model.{Model, holding, slot_of, put, is_vacant, grid_at, revision_at, needed_with}
use Rattle.model.specs.Effects.{Reply, code_of}
use Rattle.model.specs.Calls.{StoreCall, OperationCall, operation}
use Rattle.store_encoding.specs.Writing.{model_writing}
use Rattle.store_encoding.specs.Stores.{model_of}
use Rattle.histories.specs.Functions.{Step}
use Rattle.histories.specs.Lists.{Runs}
use Rattle.histories.specs.Promise.{PossibleRun}
use Rattle.merging.specs.Merging.{join_all, ◌∈◌, Rearranged}
use Rattle.merging.specs.AnyOrder.{by_max, identity, Words}

-- A merge of a slot: the slot, and what else the call is given. It looks at neither scalar, second slot, mask slot nor
-- lists; "the work buffer suffices".
pub record SlotMerge : Type 0 where
  pub slot : ℕ
  pub scalar : ℕ
  pub second : ℕ
  pub mask : ℕ
  pub is : List ℕ
  pub js : List ℕ
  pub work : ℕ
  pub suffices : workspace_words ≤ work

-- into slot d
abbrev pub call_of : ℕ → SlotMerge → OperationCall
call_of d x = record {
  options = by_max;
  verb = identity x.scalar;
  named = record { first = x.slot; second = x.second; mask = x.mask; output = d };
  is = x.is;
  js = x.js;
  work = x.work;
}

abbrev pub merge_calls : ℕ → List SlotMerge → List StoreCall
merge_calls d [] = []
merge_calls d (x ∷ xs) = operation (call_of d x) ∷ merge_calls d xs

abbrev pub slots_in : List SlotMerge → List ℕ
slots_in xs = map (λ x. x.slot) xs

-- the newest reports in slot d
abbrev pub joined_in : Model → ℕ → List ℕ → Grid
joined_in m d ks = join_all (grid_at m d) (map (grid_at m) ks)

-- and the model with them, with revision v
abbrev pub joined_model : Model → ℕ → ℕ → List ℕ → Model
joined_model m d v ks = put m d (holding v (joined_in m d ks))

-- the revision after n merges
abbrev pub next_times : ℕ → ℕ → ℕ
next_times zero v = v
next_times (suc n) v = next_times n (next_revision v)

-- the words s' and s'' of two stores are those of s with one grid in slot d, with a revision each
pub record SameBut (s : List ℕ) (d : ℕ) (s' s'' : List ℕ) : Type 0 where
  pub grid : Grid
  pub first : ℕ
  pub second : ℕ
  pub first_words : s' ≡ model_writing (length s) (put (model_of s) d (holding first grid))
  pub second_words : s'' ≡ model_writing (length s) (put (model_of s) d (holding second grid))

-- a slot with a matrix of the shape of that in slot d, "apart from C"
pub record Input (m : Model) (d k : ℕ) : Type 0 where
  pub slot : k < slot_count
  pub apart : k ≡ d → ⊥
  pub holds : is_vacant (slot_of m k) ≡ false
  pub same_rows : (grid_at m k).rows ≡ (grid_at m d).rows
  pub same_cols : (grid_at m k).cols ≡ (grid_at m d).cols

-- What is assumed of the words s of a store and of the slots ks that are merged into slot d: "the final C keeps within
-- 2,048 entries", and the store has room for it. Nothing is assumed of C on the way.
pub record Mergeable (s : List ℕ) (d : ℕ) (ks : List ℕ) : Type 0 where
  pub store : store_valid s ≡ true
  pub words : Words s
  pub target : d < slot_count
  pub holds : is_vacant (slot_of (model_of s) d) ≡ false
  pub each : (k : ℕ) → k ∈ ks → Input (model_of s) d k
  pub entries : entry_count (joined_in (model_of s) d ks) ≤ max_entries
  pub room : needed_with (model_of s) d (joined_in (model_of s) d ks) ≤ length s

-- every merge is accepted
abbrev pub AllAccepted : List Reply → Type 0
AllAccepted [] = Unit {0}
AllAccepted (r ∷ rs) = (code_of r ≡ 0) × AllAccepted rs

pub record StoreAnyOrder : Type 0 where
  -- there is a run of every list
  pub possible : Lfts 1 → Lfts 4 → (s : List ℕ) (d : ℕ) (xs : List SlotMerge) → PossibleRun s (merge_calls d xs)
  -- C on the way keeps within the bounds of the final one: all that is assumed of a list holds of each beginning of it
  pub on_the_way : {s : List ℕ} {d : ℕ} (ks js : List ℕ) → Mergeable s d (ks ++ js) → Mergeable s d ks
  -- every merge of a run is accepted
  pub accepted : {s s' : List ℕ} {d : ℕ} (xs : List SlotMerge) {rs : List Reply} → Mergeable s d (slots_in xs)
      → Runs s (merge_calls d xs) rs s' → AllAccepted rs
  -- slot d then holds the newest report of each cell, with a revision more for each merge, and every other slot what it
  -- held
  pub words_left : {s s' : List ℕ} {d : ℕ} (xs : List SlotMerge) {rs : List Reply} → Mergeable s d (slots_in xs)
      → Runs s (merge_calls d xs) rs s'
      → s' ≡ model_writing (length s)
      (joined_model (model_of s) d (next_times (length xs) (revision_at (model_of s) d)) (slots_in xs))
  -- "the same C in whatever order they come", and every word of the store
  pub other_order : {s : List ℕ} {d : ℕ} {ks js : List ℕ} → Rearranged ks js → Mergeable s d ks → Mergeable s d js
  pub any_order : {s s' s'' : List ℕ} {d : ℕ} (xs ys : List SlotMerge) {rs qs : List Reply}
      → Rearranged (slots_in xs) (slots_in ys) → Mergeable s d (slots_in xs)
      → Runs s (merge_calls d xs) rs s' → Runs s (merge_calls d ys) qs s'' → s' ≡ s''
  -- "merging one again changes nothing" but the revision, and is accepted
  pub again_accepted : {s s' s'' : List ℕ} {d : ℕ} (xs : List SlotMerge) (y : SlotMerge) {rs : List Reply} {r : Reply}
      → y.slot ∈ slots_in xs → Mergeable s d (slots_in xs) → Runs s (merge_calls d xs) rs s'
      → Step s' (operation (call_of d y)) r s'' → code_of r ≡ 0
  pub again : {s s' s'' : List ℕ} {d : ℕ} (xs : List SlotMerge) (y : SlotMerge) {rs : List Reply} {r : Reply}
      → y.slot ∈ slots_in xs → Mergeable s d (slots_in xs) → Runs s (merge_calls d xs) rs s'
      → Step s' (operation (call_of d y)) r s'' → SameBut s d s' s''
  -- both at once: lists of the same slots
  pub any_list : {s s' s'' : List ℕ} {d : ℕ} (xs ys : List SlotMerge) {rs qs : List Reply}
      → ((k : ℕ) → k ∈ slots_in xs → k ∈ slots_in ys) → ((k : ℕ) → k ∈ slots_in ys → k ∈ slots_in xs)
      → Mergeable s d (slots_in xs) → Runs s (merge_calls d xs) rs s' → Runs s (merge_calls d ys) qs s'' → SameBut s d s' s''
