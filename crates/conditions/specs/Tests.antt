-- Tests, as Boolean values that compute.
use Rattle.std.specs.Prelude.{ℕ, zero, suc, Bool, true, false}

infixr 20 ◌and◌
-- both tests hold
unfoldable pub ◌and◌ : Bool → Bool → Bool
◌and◌ true b = b
◌and◌ false b = false

-- the test holds at every number below n
unfoldable pub all : ℕ → (ℕ → Bool) → Bool
all zero p = true
all (suc n) p = all n p and p n
