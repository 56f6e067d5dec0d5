-- Sums of counts: the turns of a loop that turns counts into starts, and that the sums of the row lengths of a grid are
-- its row starts.
use Prim.Native.Nat.{ℕ, zero, suc, ◌+◌, ◌≤◌, ◌<◌}
use native.Mathlib.Omega.{arith}
use native.Mathlib.Decide.{dec_lt, ℕ_discrete}
use native.Mathlib.Numerals.{add-one}
use mathlib.Core.Path.{◌≡◌, refl, ◌∙◌}
use mathlib.Core.List.{List}
use lib.ListN.{length, set, length-set, length-append}
use lib.Seq.{get_or-set_same, get_or-set_other}
use Rattle.words.specs.Words.{at}
use Rattle.grid.specs.Grid.{Grid}
use Rattle.grid.specs.Entries.{flatten}
use Rattle.encoding.specs.Encode.{entries_before}
use Rattle.transpose.specs.Counts.{sum_before, Summable, Sums}
use Rattle.transpose.specs.Placed.{filled}

-- one count more
sum_next : (l : List ℕ) (j : ℕ) → sum_before l (j + 1) ≡ sum_before l j + at l j
unfolding sum_before
sum_next l j = rw add-one

-- more counts have no smaller sum
sum_grows : (l : List ℕ) (j n : ℕ) → j ≤ n → sum_before l j ≤ sum_before l n
unfolding sum_before
sum_grows l j zero h = let e : j ≡ zero = omega arith in rw e (omega arith)
sum_grows l j (suc n) h = go (ℕ_discrete j (suc n)) (λ d. sum_grows l j n d)
  where
    go : Dec (j ≡ suc n) → (j ≤ n → sum_before l j ≤ sum_before l n) → sum_before l j ≤ sum_before l n + at l n
    go (yes e) f = rw e (omega arith)
    go (no d) f = omega (arith, f (omega arith))

-- where the first j words are those of f, and f j is stored behind them, the first j + 1 are
store_next : (l : List ℕ) (j : ℕ) (f : ℕ → ℕ) (x : ℕ) → j < length l → x ≡ f j → ((k : ℕ) → k < j → at l k ≡ f k)
    → (k : ℕ) → k < j + 1 → at (set l j x) k ≡ f k
store_next l j f x b e h k u = go (dec_lt k j)
  where
    go : Dec (k < j) → at (set l j x) k ≡ f k
    go (yes d) = get_or-set_other l j k x 0 (λ z. omega arith) ∙ h k d
    go (no d) = let z : k ≡ j = omega arith in rw z (get_or-set_same l j x 0 b ∙ e)

-- a loop that has summed the first j counts
pub record Summing (c : ℕ) (counts₀ starts₀ counts starts : List ℕ) (sum j : ℕ) : Type 0 where
  pub within : j ≤ c
  pub sum_is : sum ≡ sum_before counts₀ j
  pub long_counts : length counts ≡ length counts₀
  pub long_starts : length starts ≡ length starts₀
  pub starts_are : (k : ℕ) → k < j → at starts k ≡ sum_before counts₀ k
  pub next_are : (k : ℕ) → k < j → at counts k ≡ sum_before counts₀ k
  pub rest : (k : ℕ) → j ≤ k → at counts k ≡ at counts₀ k

-- none of them yet
pub summing_start : (c : ℕ) (counts starts : List ℕ) → Summing c counts starts counts starts 0 0
unfolding sum_before
summing_start c counts starts = record {
  within = omega arith;
  sum_is = refl;
  long_counts = refl;
  long_starts = refl;
  starts_are = λ k l. absurd (omega arith);
  next_are = λ k l. absurd (omega arith);
  rest = λ k l. refl;
}

module _ {c : ℕ} {counts₀ starts₀ counts starts : List ℕ} {sum j : ℕ} (p : Summable c counts₀ starts₀)
    (h : Summing c counts₀ starts₀ counts starts sum j) where
  -- the sum stays small
  pub summing_small : j < c → sum + at counts j ≤ sum_before counts₀ c
  summing_small l =
      omega (arith, h.sum_is, h.rest j (omega arith), sum_next counts₀ j, sum_grows counts₀ (j + 1) c (omega arith))

  -- one count more
  pub summing_step : j < c
      → Summing c counts₀ starts₀ (set counts j sum) (set starts j sum) (sum + at counts j) (j + 1)
  summing_step l = record {
    within = omega arith;
    sum_is = omega (arith, h.sum_is, h.rest j (omega arith), sum_next counts₀ j);
    long_counts = length-set counts j sum ∙ h.long_counts;
    long_starts = length-set starts j sum ∙ h.long_starts;
    starts_are = store_next starts j (sum_before counts₀) sum (omega arith) h.sum_is h.starts_are;
    next_are = store_next counts j (sum_before counts₀) sum (omega arith) h.sum_is h.next_are;
    rest = λ k u. get_or-set_other counts j k sum 0 (λ z. omega arith) ∙ h.rest k (omega arith);
  }

  -- all of them, and the sum behind the last start
  pub summing_done : c ≤ j → Sums c counts₀ counts (set starts j sum)
  summing_done l = record {
    starts_are = λ k u.
        store_next starts j (sum_before counts₀) sum (omega arith) h.sum_is h.starts_are k (omega arith);
    next_are = λ k u. h.next_are k (omega arith);
  }

-- counts that are the lengths of a grid's rows have the row starts as their sums
pub sums_are_starts : (g : Grid) (counts : List ℕ) → ((j : ℕ) → j < g.rows → at counts j ≡ filled g g.cols j)
    → (j : ℕ) → j ≤ g.rows → sum_before counts j ≡ entries_before g j
unfolding sum_before flatten
sums_are_starts g counts h zero l = refl
sums_are_starts g counts h (suc j) l =
    rw (sums_are_starts g counts h j (omega arith), h j (omega arith), length-append)
