-- What the tests say, as facts: what functions on stores require. Lemmas both ways are in proofs/Facts.antt.
use Rattle.std.specs.Prelude.{ℕ, ◌+◌, ◌-◌, ◌≤◌, ◌<◌, ◌≡◌, true, List, length, drop, replicate}
use Rattle.limits.specs.Limits.{slot_count, max_store_words}
use Rattle.matrix.specs.Layout.{size}
use Rattle.matrix.specs.Facts.{Matrix}
use Rattle.slots.specs.Sections.{end_from, slot_at, count_at}
use Rattle.slots.specs.Valid.{contents_valid}

-- `sectioned`
pub record Sections (k : ℕ) (s : List ℕ) : Type 0 where
  pub within : end_from k s ≤ length s
  pub zeros : drop (end_from k s) s ≡ replicate (length s - end_from k s) 0

-- `contents_valid`, of a slot that is not empty
pub record Held (x : List ℕ) : Type 0 where
  pub matrix : Matrix x
  pub whole : size x ≡ length x

-- `store_valid`
pub record Store (s : List ℕ) : Type 0 where
  pub least : slot_count ≤ length s
  pub most : length s ≤ max_store_words
  pub sections : Sections slot_count s
  pub contents : (k : ℕ) → k < slot_count → contents_valid (slot_at s k) ≡ true

-- slot k of a store whose sections end at `end` can be given a count of `size` words
pub record Fits (s : List ℕ) (k end size : ℕ) : Type 0 where
  pub sections : Sections slot_count s
  pub most : length s ≤ max_store_words
  pub slot : k < slot_count
  pub ends : end ≡ end_from slot_count s
  pub room : end - count_at s k + size ≤ length s
