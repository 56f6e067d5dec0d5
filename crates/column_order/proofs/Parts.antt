-- The falls of words that are cut into parts which follow one another: those at the first word of a part, and those within
-- a part. There are none within the parts exactly when the numbers of all falls and of those at first words are equal. Cited
-- by the test of a matrix, whose parts are the rows.
use Prim.Native.Nat.{ℕ, zero, suc, ◌+◌, ◌-◌, ◌≤◌, ◌<◌}
use native.Mathlib.Omega.{arith}
use native.Mathlib.Numerals.{add-one}
use native.Mathlib.Decide.{dec_lt}
use mathlib.Core.Path.{◌≡◌, sym, ap, ◌∙◌}
use mathlib.Core.Bool.{Bool}
use lib.Dec.{ltb}
use borrow.Author.Tests.{lt-ltb, le-ltb}
use Rattle.conditions.specs.Tests.{◌and◌}
use Rattle.column_order.specs.Falls.{one, count}
use Rattle.column_order.proofs.Counts.{count_add, count_first}

-- a test f at each number, and parts of the numbers: part i is from start i up to, and not including, start (i + 1)
module _ (f : ℕ → Bool) (start : ℕ → ℕ) where
  -- part i is not empty, and the test holds at its first number
  abbrev pub first : ℕ → Bool
  first i = ltb (start i) (start (i + 1)) and f (start i)

  -- at how many of its other numbers it holds
  abbrev pub within : ℕ → ℕ
  within i = count (start (i + 1) - start i - 1) (λ k. f (start i + (1 + k)))

  -- one part more
  part_count : (i : ℕ) → start i ≤ start (i + 1)
      → count (start (i + 1)) f ≡ count (start i) f + (one (first i) + within i)
  unfolding ◌and◌ count
  part_count i u = go (dec_lt (start i) (start (i + 1)))
    where
      go : Dec (start i < start (i + 1)) → count (start (i + 1)) f ≡ count (start i) f + (one (first i) + within i)
      go (no l) =
          let e : start (i + 1) ≡ start i = omega arith in
          let z : start (i + 1) - start i - 1 ≡ 0 = omega arith in
          let o : one (first i) ≡ 0 = rw (le-ltb (start i) (start (i + 1)) (omega arith)) in
          let w : within i ≡ 0 = rw z in
          ap (λ (n : ℕ). count n f) e ∙ omega (arith, o, w)
      go (yes l) =
          let n = start (i + 1) - start i - 1 in
          let e : start (i + 1) ≡ start i + (1 + n) = omega arith in
          let o : one (first i) ≡ one (f (start i)) = rw (lt-ltb (start i) (start (i + 1)) l) in
          let g : start i + 0 ≡ start i = omega arith in
          let h : one (f (start i + 0)) ≡ one (f (start i)) = ap (λ (k : ℕ). one (f k)) g in
          ap (λ (k : ℕ). count k f) e
          ∙ omega (arith, o, h, count_add (start i) (1 + n) f, count_first n (λ k. f (start i + k)))

  module _ (begin : start 0 ≡ 0) where
    -- no more at first numbers than in all
    first_most : (n : ℕ) → ((i : ℕ) → i < n → start i ≤ start (i + 1)) → count n first ≤ count (start n) f
    unfolding count
    first_most zero u = omega arith
    first_most (suc n) u =
        let e : count (start (suc n)) f ≡ count (start (n + 1)) f = ap (λ (k : ℕ). count (start k) f) (sym (add-one n)) in
        omega (arith, e, first_most n (λ i l. u i (omega arith)), part_count n (u n (omega arith)))

    -- as many, where the test holds nowhere within a part
    pub first_all : (n : ℕ) → ((i : ℕ) → i < n → start i ≤ start (i + 1)) → ((i : ℕ) → i < n → within i ≡ 0)
        → count (start n) f ≡ count n first
    unfolding count
    first_all zero u w = ap (λ (k : ℕ). count k f) begin
    first_all (suc n) u w =
        let e : count (start (suc n)) f ≡ count (start (n + 1)) f = ap (λ (k : ℕ). count (start k) f) (sym (add-one n)) in
        omega (
          arith,
          e,
          w n (omega arith),
          part_count n (u n (omega arith)),
          first_all n (λ i l. u i (omega arith)) (λ i l. w i (omega arith)),
        )

    -- and only there
    pub none_within : (n : ℕ) → ((i : ℕ) → i < n → start i ≤ start (i + 1)) → count (start n) f ≡ count n first
        → (i : ℕ) → i < n → within i ≡ 0
    unfolding count
    none_within zero u q i l = absurd (omega arith)
    none_within (suc n) u q i l =
        let v : (j : ℕ) → j < n → start j ≤ start (j + 1) = λ j h. u j (omega arith) in
        let e : count (start (suc n)) f ≡ count (start (n + 1)) f = ap (λ (k : ℕ). count (start k) f) (sym (add-one n)) in
        let m = first_most n v in
        let p = part_count n (u n (omega arith)) in
        go (dec_lt i n) (λ h. none_within n v (omega arith) i h) (omega arith)
      where
        go : Dec (i < n) → (i < n → within i ≡ 0) → within n ≡ 0 → within i ≡ 0
        go (yes h) r z = r h
        go (no h) r z = let j : i ≡ n = omega arith in rw j z
