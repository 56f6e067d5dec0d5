-- Computed examples of the rounds: what each sentence says, and what its nearest wrong reading would give.
use Rattle.std.specs.Prelude.{ℕ, ◌+◌, ◌≡◌, refl, Bool, true, false, cond, eqb, None, Some}
use Rattle.conditions.specs.Tests.{◌and◌}
use Rattle.grid.specs.Grid.{Grid}
use Rattle.key_rounds.specs.Rounds.{filled, ◌or◌, some, reached, keys_after, doors_after, first_before, first_round, door_vector}

-- a corridor: key k opens door k, and key k + 1 is behind it. The entries of the locks are 0
corridor_locks : Grid
corridor_locks = record { rows = 3; cols = 3; cell = λ i j. cond (eqb i j) (Some 0) None }

corridor_cabinets : Grid
corridor_cabinets = record { rows = 3; cols = 3; cell = λ i j. cond (eqb (i + 1) j) (Some 5) None }

corridor_hand : ℕ → Bool
corridor_hand k = eqb k 0

-- the keys in hand open their doors in round 0, not 1
corridor_first : first_round corridor_locks corridor_cabinets corridor_hand 0 0 ≡ Some 0
unfolding first_before doors_after keys_after reached some filled ◌or◌ ◌and◌ corridor_locks corridor_cabinets corridor_hand
corridor_first = refl

-- a door that is open later too keeps its first round
corridor_kept : first_round corridor_locks corridor_cabinets corridor_hand 2 0 ≡ Some 0
unfolding first_before doors_after keys_after reached some filled ◌or◌ ◌and◌ corridor_locks corridor_cabinets corridor_hand
corridor_kept = refl

-- one door more in each round: the last is within an allowance of 2 rounds and not of 1
corridor_last : first_round corridor_locks corridor_cabinets corridor_hand 2 2 ≡ Some 2
unfolding first_before doors_after keys_after reached some filled ◌or◌ ◌and◌ corridor_locks corridor_cabinets corridor_hand
corridor_last = refl

corridor_short : first_round corridor_locks corridor_cabinets corridor_hand 1 2 ≡ None
unfolding first_before doors_after keys_after reached some filled ◌or◌ ◌and◌ corridor_locks corridor_cabinets corridor_hand
corridor_short = refl

-- a larger allowance than there are keys adds nothing
corridor_beyond : first_round corridor_locks corridor_cabinets corridor_hand 9 2 ≡ Some 2
unfolding first_before doors_after keys_after reached some filled ◌or◌ ◌and◌ corridor_locks corridor_cabinets corridor_hand
corridor_beyond = refl

-- the key in hand is behind no door, and is held after round 1 too; so its door is open then
corridor_held : keys_after corridor_locks corridor_cabinets corridor_hand 1 0 ≡ true
unfolding doors_after keys_after reached some filled ◌or◌ ◌and◌ corridor_locks corridor_cabinets corridor_hand
corridor_held = refl

corridor_stays : doors_after corridor_locks corridor_cabinets corridor_hand 1 0 ≡ true
unfolding doors_after keys_after reached some filled ◌or◌ ◌and◌ corridor_locks corridor_cabinets corridor_hand
corridor_stays = refl

-- what is behind a door is held a round after the door opens, and not in its round
corridor_waits : keys_after corridor_locks corridor_cabinets corridor_hand 0 1 ≡ false
unfolding keys_after corridor_hand
corridor_waits = refl

-- two keys by three doors, which tells rows from columns: key 0 is in hand, with an entry 0, and opens door 1; behind
-- that is key 1, which opens the doors 0 and 1
house_locks : Grid
house_locks = record {
  rows = 2;
  cols = 3;
  cell = λ k d. cond (eqb k 0) (cond (eqb d 1) (Some 7) None) (cond (eqb d 2) None (Some 0));
}

house_cabinets : Grid
house_cabinets = record {
  rows = 3;
  cols = 2;
  cell = λ d k. cond (eqb d 1 and eqb k 1) (Some 0) None;
}

house_hand : Grid
house_hand = record { rows = 1; cols = 2; cell = λ i k. cond (eqb k 0) (Some 0) None }

house_later : (door_vector house_locks house_cabinets house_hand 1).cell 0 0 ≡ Some 1
unfolding first_before doors_after keys_after reached some filled ◌or◌ ◌and◌ house_locks house_cabinets house_hand
house_later = refl

house_first : (door_vector house_locks house_cabinets house_hand 1).cell 0 1 ≡ Some 0
unfolding first_before doors_after keys_after reached some filled ◌or◌ ◌and◌ house_locks house_cabinets house_hand
house_first = refl

house_never : (door_vector house_locks house_cabinets house_hand 1).cell 0 2 ≡ None
unfolding first_before doors_after keys_after reached some filled ◌or◌ ◌and◌ house_locks house_cabinets house_hand
house_never = refl

-- "which doors open within an allowance": with none only those of round 0
house_none : (door_vector house_locks house_cabinets house_hand 0).cell 0 0 ≡ None
unfolding first_before doors_after keys_after reached some filled ◌or◌ ◌and◌ house_locks house_cabinets house_hand
house_none = refl

-- a column for each door
house_doors : (door_vector house_locks house_cabinets house_hand 1).cols ≡ 3
unfolding house_locks
house_doors = refl
