-- Places by blocks: a place below m · n is one of n places in one of m blocks.
use Prim.Native.Nat.{ℕ, zero, suc, ◌*◌, ◌/◌, ◌%◌, ◌≤◌, ◌<◌}
use native.Mathlib.Nat.{mul-zero, mod-lt, div-lt_iff_lt-mul, mul-le-mul}
use native.Mathlib.Omega.{arith}
use Rattle.limits.specs.Limits.{max_cols}

-- a block has places
pub has_places : (m n i : ℕ) → i < m * n → 0 < n
has_places m zero i l = absurd (omega (arith, mul-zero m))
has_places m (suc n) i l = omega arith

pub block_below : (m n i : ℕ) → i < m * n → i / n < m
block_below m n i l = (div-lt_iff_lt-mul (has_places m n i l)).1 l

pub place_below : (m n i : ℕ) → i < m * n → i % n < n
place_below m n i l = mod-lt i (has_places m n i l)

-- the places of blocks of matrices
pub blocks_most : (m n : ℕ) → m ≤ max_cols → n ≤ max_cols → m * n ≤ max_cols * max_cols
blocks_most m n h k = mul-le-mul h k
