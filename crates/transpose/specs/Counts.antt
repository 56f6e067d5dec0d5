-- Counting the column numbers of a matrix, and summing the counts: what the functions for it require and ensure.
use Rattle.std.specs.Prelude.{ℕ, zero, suc, ◌+◌, ◌≤◌, ◌<◌, ◌≡◌, List, [], ◌∷◌, cond, length, eqb}
use Rattle.limits.specs.Limits.{max_entries}
use Rattle.words.specs.Words.{at}

-- how often the word j occurs in a list
unfoldable pub occurrences : ℕ → List ℕ → ℕ
occurrences j [] = 0
occurrences j (c ∷ l) = cond (eqb c j) 1 0 + occurrences j l

-- the sum of the first n words of a list
unfoldable pub sum_before : List ℕ → ℕ → ℕ
sum_before l zero = 0
sum_before l (suc n) = sum_before l n + at l n

-- column numbers for which there are counts, all of them still 0
pub record Countable (columns counts : List ℕ) : Type 0 where
  pub few : length columns ≤ max_entries
  pub small : (k : ℕ) → k < length columns → at columns k < length counts
  pub clear : (j : ℕ) → at counts j ≡ 0

-- they have been counted
pub record CountsOf (columns counts : List ℕ) : Type 0 where
  pub counts_are : (j : ℕ) → j < length counts → at counts j ≡ occurrences j columns

-- c counts whose sum is no more than the entries of a matrix, and the words for c + 1 starts
pub record Summable (c : ℕ) (counts starts : List ℕ) : Type 0 where
  pub within : c ≤ length counts
  pub few : sum_before counts c ≤ max_entries
  pub room : length starts ≡ c + 1

-- each start is the sum of the counts before it, and `next` has the starts of the first c
pub record Sums (c : ℕ) (counts next starts : List ℕ) : Type 0 where
  pub starts_are : (j : ℕ) → j ≤ c → at starts j ≡ sum_before counts j
  pub next_are : (j : ℕ) → j < c → at next j ≡ sum_before counts j
