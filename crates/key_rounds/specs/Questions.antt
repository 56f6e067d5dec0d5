-- "the doors' question and the keys' question as two that ask each other". Each asks about the round before; the
-- doors of a round are asked of that round's keys, which are written out.
use Rattle.std.specs.Prelude.{ℕ, zero, suc, Bool}
use Rattle.grid.specs.Grid.{Grid}
use Rattle.key_rounds.specs.Rounds.{◌or◌, reached}

module _ (locks cabinets : Grid) (hand : ℕ → Bool) where
  unfoldable mutual
    pub keys_asked : ℕ → ℕ → Bool
    keys_asked zero k = hand k
    keys_asked (suc n) k = keys_asked n k or reached cabinets (λ d. doors_asked n d) k

    pub doors_asked : ℕ → ℕ → Bool
    doors_asked zero d = reached locks hand d
    doors_asked (suc n) d = reached locks (λ k. keys_asked n k or reached cabinets (λ e. doors_asked n e) k) d
