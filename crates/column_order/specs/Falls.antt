-- Words that follow one another: whether all are below a bound, and where one is not above the one before it.
use Rattle.std.specs.Prelude.{
  ℕ,
  zero,
  suc,
  ◌+◌,
  ◌-◌,
  ◌≡◌,
  refl,
  List,
  [],
  ◌∷◌,
  Bool,
  true,
  false,
  cond,
  length,
  ltb,
  leb,
}
use Rattle.conditions.specs.Tests.{◌and◌, all}
use Rattle.words.specs.Words.{at}

-- "Column numbers are below C"
unfoldable pub all_below : ℕ → List ℕ → Bool
all_below bound s = all (length s) (λ k. ltb (at s k) bound)

-- at how many numbers below n a test holds, each counted as one
abbrev pub one : Bool → ℕ
one b = cond b 1 0

unfoldable pub count : ℕ → (ℕ → Bool) → ℕ
count zero p = 0
count (suc n) p = count n p + one (p n)

-- the word behind word k is not above it
abbrev pub falls_after : List ℕ → ℕ → Bool
falls_after s k = leb (at s (k + 1)) (at s k)

-- how often a word is not above the one before it; words that "rise strictly" have none
unfoldable pub falls : List ℕ → ℕ
falls s = count (length s - 1) (falls_after s)

below_all : all_below 8 (3 ∷ 7 ∷ []) ≡ true
unfolding all_below all ◌and◌
below_all = refl

-- the bound itself is not below
bound_refused : all_below 7 (3 ∷ 7 ∷ []) ≡ false
unfolding all_below all ◌and◌
bound_refused = refl

no_fall : falls (3 ∷ 5 ∷ 9 ∷ []) ≡ 0
unfolding falls count
no_fall = refl

-- equal neighbours are a fall, and so is the last pair
falls_counted : falls (3 ∷ 3 ∷ 9 ∷ 4 ∷ []) ≡ 2
unfolding falls count
falls_counted = refl

no_words : falls [] ≡ 0
unfolding falls count
no_words = refl
