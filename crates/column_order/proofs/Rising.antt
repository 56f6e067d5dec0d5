-- A row rises strictly below a bound exactly when all its column numbers are below it and none is a fall. Cited by the test
-- of a matrix.
use Prim.Native.Nat.{ℕ, suc, ◌+◌, ◌-◌, ◌≤◌, ◌<◌}
use native.Mathlib.Omega.{arith}
use native.Mathlib.Numerals.{add-one}
use mathlib.Core.Path.{◌≡◌, refl, sym}
use mathlib.Core.List.{List, [], ◌∷◌}
use mathlib.Core.Bool.{true}
use lib.ListN.{length}
use borrow.Author.Tests.{le-leb, lt-leb, lt-ltb, leb-false}
use Rattle.words.specs.Words.{at}
use Rattle.conditions.proofs.Tests.{and_both}
use Rattle.rows.specs.Row.{rising}
use Rattle.rows.proofs.Rising.{rising_rises}
use Rattle.column_order.specs.Falls.{falls_after, falls}
use Rattle.column_order.proofs.Counts.{count_zero, zero_count}

-- a row that rises has no falls
pub rising_falls : (bound : ℕ) (l : List ℕ) → rising bound 0 l ≡ true → falls l ≡ 0
unfolding falls
rising_falls bound l h =
    count_zero (length l - 1) (falls_after l)
    (λ k n. lt-leb _ _ ((rising_rises bound 0 l h).up k (k + 1) (omega arith) (omega arith)))

-- neighbours that rise make a row that rises
neighbours_rise : (bound low : ℕ) (l : List ℕ) → ((k : ℕ) → k + 1 < length l → at l k < at l (suc k))
    → ((k : ℕ) → k < length l → at l k < bound) → low ≤ at l 0 → rising bound low l ≡ true
neighbours_rise bound low [] r b a = refl
neighbours_rise bound low (c ∷ []) r b a = and_both (le-leb _ _ a) (and_both (lt-ltb _ _ (b 0 (omega arith))) refl)
neighbours_rise bound low (c ∷ d ∷ l) r b a =
    let u : c < d = r 0 (omega arith) in
    and_both (le-leb _ _ a) (and_both (lt-ltb _ _ (b 0 (omega arith)))
    (neighbours_rise bound (c + 1) (d ∷ l) (λ k n. r (suc k) (omega arith)) (λ k n. b (suc k) (omega arith)) (omega arith)))

-- a row without falls, below the bound, rises
pub falls_rising : (bound : ℕ) (l : List ℕ) → falls l ≡ 0 → ((k : ℕ) → k < length l → at l k < bound)
    → rising bound 0 l ≡ true
unfolding falls
falls_rising bound l z b =
    neighbours_rise bound 0 l
    (λ k n. rw (sym (add-one k)) (leb-false _ _ (zero_count (length l - 1) (falls_after l) z k (omega arith)))) b (omega arith)
