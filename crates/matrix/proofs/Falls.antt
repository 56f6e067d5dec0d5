-- All rows are valid exactly when all column numbers are below the number of columns and the words from N on fall only where a
-- row starts. Cited by `rows_valid`.
use Prim.Native.Nat.{ℕ, zero, suc, ◌+◌, ◌-◌, ◌≤◌, ◌<◌}
use native.Mathlib.Omega.{arith}
use native.Mathlib.Numerals.{add-one}
use native.Mathlib.Decide.{dec_lt, ℕ_discrete}
use mathlib.Core.Path.{◌≡◌, sym, ap, ◌∙◌}
use mathlib.Core.List.{List}
use mathlib.Core.Bool.{Bool, true, false, false≢true}
use lib.ListN.{length}
use lib.Dec.{ltb, eqb}
use borrow.Author.Tests.{eq-eqb, ne_eqb, lt-ltb, le-ltb, ltb-true}
use Rattle.words.specs.Words.{at, part}
use Rattle.words.proofs.Parts.{length_part, part_at}
use Rattle.conditions.specs.Tests.{◌and◌}
use Rattle.conditions.proofs.Tests.{refuted, all_at, all_made}
use Rattle.rows.proofs.Rising.{rising_below}
use Rattle.column_order.specs.Falls.{all_below, count, falls_after, falls}
use Rattle.column_order.proofs.Counts.{count_same}
use Rattle.column_order.proofs.Parts.{within, first_all, none_within}
use Rattle.column_order.proofs.Rising.{rising_falls, falls_rising}
use Rattle.matrix.specs.Layout.{rows, cols, start, entries, count_at, columns_at, columns_from, row_columns}
use Rattle.matrix.specs.Valid.{rows_valid}
use Rattle.matrix.specs.Facts.{Header, Starts, RowSpan}
use Rattle.matrix.specs.Falls.{falls_at_start, start_falls}
use Rattle.matrix.proofs.Facts.{row_rises, row_span}
use Rattle.matrix.proofs.Rows.{columns_length}

-- the answers of `falls_at_start`
module _ (s : List ℕ) (i : ℕ) where
  pub no_entries_lem : start s (i + 1) ≤ start s i → false ≡ falls_at_start s i
  unfolding ◌and◌
  no_entries_lem h = rw (le-ltb _ _ h)

  pub first_decides : start s i < start s (i + 1) → falls_after s (count_at (rows s) + start s i) ≡ falls_at_start s i
  unfolding ◌and◌
  first_decides l = rw (lt-ltb _ _ l)

-- N and the column numbers, and the column numbers alone
abbrev pub counted_columns : List ℕ → List ℕ
counted_columns s = part (count_at (rows s)) (columns_at (rows s) + entries s) s

abbrev pub all_columns : List ℕ → List ℕ
all_columns s = part (columns_at (rows s)) (columns_at (rows s) + entries s) s

-- whether column number k is not above the word before it
abbrev fall : List ℕ → ℕ → Bool
fall s k = falls_after s (count_at (rows s) + k)

-- the two words that a fall compares, found elsewhere
same_fall : (s t : List ℕ) (j k : ℕ) → at t (k + 1) ≡ at s (j + 1) → at t k ≡ at s j → falls_after t k ≡ falls_after s j
same_fall s t j k e g = rw (e, g)

module _ (s : List ℕ) (h : Header s) (t : Starts s) where
  -- the falls of all column numbers
  all_falls : falls (counted_columns s) ≡ count (start s (rows s)) (fall s)
  unfolding falls
  all_falls =
      let w = counted_columns s in
      let l = length_part (count_at (rows s)) (columns_at (rows s) + entries s) s (omega arith) in
      let e : length w - 1 ≡ start s (rows s) = omega (arith, t.last) in
      ap (λ (n : ℕ). count n (falls_after w)) e
      ∙ count_same (start s (rows s)) (falls_after w) (fall s) (λ k n.
      let a = count_at (rows s) in
      let b = columns_at (rows s) + entries s in
      let q : a + (k + 1) ≡ a + k + 1 = omega arith in
      same_fall s w (a + k) k (part_at a b (k + 1) s (omega (arith, t.last)) ∙ ap (λ (j : ℕ). at s j) q)
      (part_at a b k s (omega (arith, t.last))))

  module _ (i : ℕ) (r : RowSpan s i) where
    -- a word of row i
    row_at : (k : ℕ) → k < length (row_columns s i) → at (row_columns s i) k ≡ at s (columns_from s i + k)
    row_at k n =
        part_at (columns_from s i) (columns_from s (i + 1)) k s (omega (arith, columns_length s i h r))

    -- the falls within row i
    row_falls : within (fall s) (start s) i ≡ falls (row_columns s i)
    unfolding falls
    row_falls =
        let w = row_columns s i in
        let l = columns_length s i h r in
        let e : length w - 1 ≡ start s (i + 1) - start s i - 1 = omega arith in
        sym (ap (λ (n : ℕ). count n (falls_after w)) e
        ∙ count_same (start s (i + 1) - start s i - 1) (falls_after w) (λ k. fall s (start s i + (1 + k))) (λ k n.
        let j = count_at (rows s) + (start s i + (1 + k)) in
        let p : columns_from s i + (k + 1) ≡ j + 1 = omega arith in
        let q : columns_from s i + k ≡ j = omega arith in
        same_fall s w j k (row_at (k + 1) (omega arith) ∙ ap (λ (m : ℕ). at s m) p)
        (row_at k (omega arith) ∙ ap (λ (m : ℕ). at s m) q)))

    -- its column numbers are below the bound if all are
    row_below : all_below (cols s) (all_columns s) ≡ true → (k : ℕ) → k < length (row_columns s i)
        → at (row_columns s i) k < cols s
    unfolding all_below
    row_below b k n =
        let w = all_columns s in
        let a = columns_at (rows s) in
        let l = columns_length s i h r in
        let m = length_part a (a + entries s) s (omega arith) in
        let q : a + (start s i + k) ≡ columns_from s i + k = omega arith in
        let g : at w (start s i + k) < cols s =
        ltb-true _ _ (all_at (λ j. ltb (at w j) (cols s)) (length w) (start s i + k) (omega arith) b) in
        let e = part_at a (a + entries s) (start s i + k) s (omega arith) ∙ ap (λ (j : ℕ). at s j) q in
        omega (arith, g, e, row_at k n)

  -- where the first n rows rise, their column numbers are below the bound
  columns_below : (n : ℕ) → n ≤ rows s → ((i : ℕ) → i < n → row_rises s i ≡ true)
      → (k : ℕ) → k < start s n → at s (columns_at (rows s) + k) < cols s
  columns_below zero m u k l = absurd (omega (arith, t.first))
  columns_below (suc n) m u k l = go (dec_lt k (start s n)) (columns_below n (omega arith) (λ i p. u i (omega arith)) k)
    where
      r : RowSpan s n
      r = row_span s t n (omega arith)

      go : Dec (k < start s n) → (k < start s n → at s (columns_at (rows s) + k) < cols s)
          → at s (columns_at (rows s) + k) < cols s
      go (yes p) v = v p
      go (no p) v =
          let e : start s (suc n) ≡ start s (n + 1) = ap (λ (j : ℕ). start s j) (sym (add-one n)) in
          let c = columns_length s n h r in
          let j = k - start s n in
          let q : columns_from s n + j ≡ columns_at (rows s) + k = omega arith in
          let b = rising_below (cols s) 0 (row_columns s n) (u n (omega arith)) j (omega arith) in
          omega (arith, b, row_at n r j (omega arith), ap (λ (i : ℕ). at s i) q)

  -- ---- the answers of `rows_valid`

  rows_rise : rows_valid s ≡ true → (i : ℕ) → i < rows s → row_rises s i ≡ true
  unfolding rows_valid
  rows_rise v i l = all_at (row_rises s) (rows s) i l v

  -- a column number that is not below
  pub not_below : all_below (cols s) (all_columns s) ≡ false → false ≡ rows_valid s
  unfolding all_below
  not_below f =
      let a = columns_at (rows s) in
      let m = length_part a (a + entries s) s (omega arith) in
      sym (refuted (rows_valid s) (λ v. false≢true (sym f ∙ all_made (λ k. ltb (at (all_columns s) k) (cols s))
      (length (all_columns s)) (λ k n.
      let b = columns_below (rows s) (omega arith) (rows_rise v) k (omega (arith, t.last)) in
      let g : at (all_columns s) k < cols s = omega (arith, b, part_at a (a + entries s) k s (omega arith)) in
      lt-ltb _ _ g))))

  -- else the two numbers of falls decide
  pub falls_decide : all_below (cols s) (all_columns s) ≡ true
      → eqb (falls (counted_columns s)) (start_falls s) ≡ rows_valid s
  unfolding rows_valid start_falls
  falls_decide b = go (ℕ_discrete (falls (counted_columns s)) (start_falls s))
    where
      go : Dec (falls (counted_columns s) ≡ start_falls s) → eqb (falls (counted_columns s)) (start_falls s) ≡ rows_valid s
      go (yes e) =
          eq-eqb _ _ e ∙ sym (all_made (row_rises s) (rows s) (λ i l.
          let r = row_span s t i l in
          falls_rising (cols s) (row_columns s i) (sym (row_falls i r)
          ∙ none_within (fall s) (start s) t.first (rows s) t.up (sym all_falls ∙ e) i l) (row_below i r b)))
      go (no f) =
          ne_eqb _ _ f ∙ sym (refuted (rows_valid s) (λ v.
          f (all_falls ∙ first_all (fall s) (start s) t.first (rows s) t.up
          (λ i l. row_falls i (row_span s t i l) ∙ rising_falls (cols s) (row_columns s i) (rows_rise v i l)))))
