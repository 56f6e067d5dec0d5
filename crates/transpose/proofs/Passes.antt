-- From one pass of a transpose to the next: the columns of a matrix can be counted, the counts summed, and the entries
-- placed from the sums on.
use Prim.Native.Nat.{ℕ, zero, suc, ◌+◌, ◌-◌, ◌≤◌, ◌<◌}
use native.Mathlib.Omega.{arith}
use native.Mathlib.Nat.{le_refl}
use native.Mathlib.Decide.{dec_lt}
use mathlib.Core.Path.{◌≡◌, refl, sym, ◌∙◌}
use mathlib.Core.List.{List, ◌++◌}
use lib.ListN.{length, replicate, length-append, get_or-append}
use lib.Seq.{get_or-append-add}
use Rattle.limits.specs.Limits.{max_cols}
use Rattle.words.specs.Words.{at, part}
use Rattle.grid.specs.Cell.{Cell}
use Rattle.grid.specs.Entries.{column, gather, flatten, grid_columns}
use Rattle.rows.proofs.Lookup.{gather_row}
use Rattle.matrix.specs.Layout.{columns_at, count_again_at, rows, cols, entries, grid_of}
use Rattle.matrix.specs.Facts.{Matrix}
use Rattle.matrix.proofs.Facts.{matrix_made}
use Rattle.encoding.specs.Encode.{entries_before, grid_starts}
use Rattle.encoding.proofs.GridSections.{starts_are}
use Rattle.encoding.proofs.Decoded.{valid_columns, valid_entries}
use Rattle.operations.specs.GridOperations.{transposed}
use Rattle.transpose.specs.Counts.{sum_before, Countable, CountsOf, Summable, Sums}
use Rattle.transpose.specs.Placed.{Ready}
use Rattle.transpose.proofs.Transposed.{transposed_entries}
use Rattle.transpose.proofs.Occurrences.{columns_count}
use Rattle.transpose.proofs.Sums.{sums_are_starts}

-- every word of zeros is 0, and past their end too
zeros_at : (n j : ℕ) → at (replicate n 0) j ≡ 0
zeros_at zero j = refl
zeros_at (suc n) zero = refl
zeros_at (suc n) (suc j) = zeros_at n j

-- the column numbers of r rows are below n
columns_below : (n : ℕ) (cell : ℕ → ℕ → Cell) (r k : ℕ) → k < length (flatten column n cell r)
    → at (flatten column n cell r) k < n
unfolding flatten
columns_below n cell zero k l = absurd (omega arith)
columns_below n cell (suc r) k l = go (dec_lt k (length (flatten column n cell r))) (λ d. columns_below n cell r k d)
  where
    front : List ℕ
    front = flatten column n cell r

    row : List ℕ
    row = gather column n (cell r)

    go : Dec (k < length front) → (k < length front → at front k < n) → at (front ++ row) k < n
    go (yes d) h = rw (get_or-append front row 0 k d) (h d)
    go (no d) h =
        let e : k ≡ length front + (k - length front) = omega arith in
        rw (e, get_or-append-add front row (k - length front) 0)
        ((gather_row n (cell r)).small (k - length front) (omega (arith, length-append front row)))

-- the column numbers of a matrix with n entries
abbrev pub columns_of : List ℕ → ℕ → List ℕ
columns_of a n = part (columns_at (rows a)) (count_again_at (rows a) n) a

module _ {a : List ℕ} {n : ℕ} (m : Matrix a) (e : n ≡ entries a) where
  -- are those of its grid
  columns_are : columns_of a n ≡ grid_columns (grid_of a)
  columns_are = rw e (sym (valid_columns a (matrix_made a m)))

  -- and can be counted, from zeros on
  pub columns_countable : Countable (columns_of a n) (replicate max_cols 0)
  columns_countable =
      let count = valid_entries a (matrix_made a m) in
      let h = m.header in
      rw columns_are (record {
        few = omega arith;
        small = λ k l. omega (arith, columns_below (cols a) (grid_of a).cell (rows a) k l);
        clear = zeros_at max_cols;
      })

  -- when they have been
  module _ {counts : List ℕ} (c : CountsOf (columns_of a n) counts) (long : length counts ≡ max_cols) where
    -- the starts of the transposed grid are sums of the counts
    counts_sum : (j : ℕ) → j ≤ cols a → sum_before counts j ≡ entries_before (transposed (grid_of a)) j
    counts_sum =
        sums_are_starts (transposed (grid_of a)) counts
        (λ j l. c.counts_are j (omega (arith, m.header)) ∙ rw columns_are (columns_count (grid_of a) j l))

    -- which can be written
    pub counts_summable : {starts : List ℕ} → length starts ≡ cols a + 1 → Summable (cols a) counts starts
    counts_summable l =
        let h = m.header in
        record {
          within = omega arith;
          few = omega (arith, counts_sum (cols a) (le_refl (cols a)), transposed_entries m);
          room = l;
        }

    -- when they have been
    module _ {next starts : List ℕ} (sums : Sums (cols a) counts next starts) where
      -- they are the row starts of the transposed grid
      pub starts_written : length starts ≡ cols a + 1 → starts ≡ grid_starts (transposed (grid_of a))
      starts_written l =
          starts_are (transposed (grid_of a)) starts l (λ j k. sums.starts_are j k ∙ counts_sum j k)

      -- and the entries can be placed
      pub starts_ready : {sections : List ℕ} → length next ≡ max_cols → length sections ≡ n + n + 2
          → Ready (transposed (grid_of a)) next sections
      starts_ready l k =
          let h = m.header in
          let count = transposed_entries m in
          record {
            room = record { entries_are = refl; few = omega arith; rows_fit = omega arith; sections_fit = omega arith };
            starts = λ j u. sums.next_are j u ∙ counts_sum j (omega arith);
          }
