-- What is known of a call that none of the refusals 3 to 9 applies to.
use Rattle.std.specs.Prelude.{ℕ, ◌≤◌, ◌≡◌, List}
use Rattle.limits.specs.Limits.{max_allowance}
use Rattle.limits.specs.Sizes.{workspace_words}
use Rattle.matrix.specs.Layout.{rows, cols}
use Rattle.matrix.specs.Facts.{Matrix}

-- three valid matrices that fit, and an allowance within its limit
pub record Ready (allowance : ℕ) (locks cabinets hand : List ℕ) : Type 0 where
  pub locks_valid : Matrix locks
  pub cabinets_valid : Matrix cabinets
  pub hand_valid : Matrix hand
  pub same_doors : rows cabinets ≡ cols locks
  pub same_keys : cols cabinets ≡ rows locks
  pub one_row : rows hand ≡ 1
  pub hand_keys : cols hand ≡ rows locks
  pub allowed : allowance ≤ max_allowance

pub record Checked (allowance : ℕ) (locks cabinets hand : List ℕ) (work : ℕ) : Type 0 where
  pub ready : Ready allowance locks cabinets hand
  pub workspace : workspace_words ≤ work
