-- The two questions that ask each other are the rounds.
use Prim.Native.Nat.{ℕ, zero, suc}
use mathlib.Core.Path.{◌≡◌, refl, ◌∙◌}
use mathlib.Core.Bool.{Bool}
use Rattle.grid.specs.Grid.{Grid}
use Rattle.key_rounds.specs.Rounds.{reached, keys_after, doors_after}
use Rattle.key_rounds.specs.Questions.{keys_asked, doors_asked}
use Rattle.key_rounds.proofs.Tests.{reached_same}

module _ (locks cabinets : Grid) (hand : ℕ → Bool) where
  -- "Doors after round n are what the keys after round n open"
  pub doors_of_keys : (n d : ℕ) → doors_asked locks cabinets hand n d ≡ reached locks (keys_asked locks cabinets hand n) d
  unfolding keys_asked
  doors_of_keys zero d = refl
  doors_of_keys (suc n) d = refl

  pub keys_asked_lem : (n k : ℕ) → keys_asked locks cabinets hand n k ≡ keys_after locks cabinets hand n k
  unfolding keys_asked keys_after
  keys_asked_lem zero k = refl
  keys_asked_lem (suc n) k =
      rw (
        keys_asked_lem n k,
        reached_same cabinets (doors_asked locks cabinets hand n) (reached locks (keys_after locks cabinets hand n)) k
            (λ d l.
            doors_of_keys n d
            ∙ reached_same locks (keys_asked locks cabinets hand n) (keys_after locks cabinets hand n) d
            (λ i m. keys_asked_lem n i)),
      )

  pub doors_asked_lem : (n d : ℕ) → doors_asked locks cabinets hand n d ≡ doors_after locks cabinets hand n d
  unfolding doors_after
  doors_asked_lem n d =
      doors_of_keys n d
      ∙ reached_same locks (keys_asked locks cabinets hand n) (keys_after locks cabinets hand n) d (λ i l. keys_asked_lem n i)
