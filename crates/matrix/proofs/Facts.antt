-- The tests of a matrix and the facts they stand for, both ways. Every use of validity goes through these.
use Prim.Native.Nat.{ℕ, zero, suc, ◌+◌, ◌-◌, ◌≤◌, ◌<◌}
use native.Mathlib.Omega.{arith}
use native.Mathlib.Nat.{le_trans}
use mathlib.Core.Path.{◌≡◌}
use mathlib.Core.List.{List}
use mathlib.Core.Bool.{Bool, true}
use lib.ListN.{length}
use lib.Dec.{eqb}
use borrow.Author.Tests.{le-leb, eq-eqb, leb-true, eqb-true}
use Rattle.conditions.specs.Tests.{◌and◌, all}
use Rattle.conditions.proofs.Tests.{and_left, and_right, and_both, all_at, all_made}
pub use Rattle.limits.proofs.Ranges.{range_made, range_facts}
use Rattle.rows.specs.Row.{rising}
use Rattle.limits.specs.Limits.{max_rows, max_cols, max_entries}
use Rattle.matrix.specs.Layout.{
  revision_count,
  shape_count,
  rows,
  cols,
  start_count,
  start,
  entries,
  entries_again,
  size,
  row_columns,
}
use Rattle.matrix.specs.Valid.{climbs, header_valid, starts_valid, rows_valid, valid}
use Rattle.matrix.specs.Facts.{InRange, Header, Starts, RowSpan, Matrix}

-- a test by which the column numbers of a row rise
abbrev pub row_rises : List ℕ → ℕ → Bool
row_rises s i = rising (cols s) 0 (row_columns s i)

pub header_made : (s : List ℕ) → Header s → header_valid s ≡ true
unfolding header_valid
header_made s h =
    and_both (eq-eqb _ _ h.one) (and_both (eq-eqb _ _ h.two) (and_both (range_made h.row_range)
    (and_both (range_made h.col_range) (and_both (eq-eqb _ _ h.starts) (and_both (le-leb _ _ h.few)
    (and_both (le-leb _ _ h.fits) (eq-eqb _ _ h.again)))))))

pub header_facts : (s : List ℕ) → header_valid s ≡ true → Header s
unfolding header_valid
header_facts s h =
    let h₀ = and_right _ _ h in
    let h₁ = and_right _ _ h₀ in
    let h₂ = and_right _ _ h₁ in
    let h₃ = and_right _ _ h₂ in
    let h₄ = and_right _ _ h₃ in
    let h₅ = and_right _ _ h₄ in
    record {
      one = eqb-true _ _ (and_left _ _ h);
      two = eqb-true _ _ (and_left _ _ h₀);
      row_range = range_facts _ _ (and_left _ _ h₁);
      col_range = range_facts _ _ (and_left _ _ h₂);
      starts = eqb-true _ _ (and_left _ _ h₃);
      few = leb-true _ _ (and_left _ _ h₄);
      fits = leb-true _ _ (and_left _ _ h₅);
      again = eqb-true _ _ (and_right _ _ h₅);
    }

-- the header as the last test decides, once all before it have held
pub header_decide : (s : List ℕ) → revision_count s ≡ 1 → shape_count s ≡ 2 → InRange max_rows (rows s)
    → InRange max_cols (cols s) → start_count s ≡ rows s + 1 → entries s ≤ max_entries → size s ≤ length s
    → eqb (entries_again s) (entries s) ≡ header_valid s
unfolding header_valid ◌and◌
header_decide s one two r c starts few fits =
    rw (eq-eqb _ _ one, eq-eqb _ _ two, range_made r, range_made c, eq-eqb _ _ starts, le-leb _ _ few, le-leb _ _ fits)

pub starts_made : (s : List ℕ) → Starts s → starts_valid s ≡ true
unfolding starts_valid
starts_made s h =
    and_both (eq-eqb _ _ h.first) (and_both (eq-eqb _ _ h.last)
    (all_made (climbs s) (rows s) (λ i l. le-leb _ _ (h.up i l))))

pub starts_facts : (s : List ℕ) → starts_valid s ≡ true → Starts s
unfolding starts_valid
starts_facts s h =
    let k = and_right _ _ h in
    record {
      first = eqb-true _ _ (and_left _ _ h);
      last = eqb-true _ _ (and_left _ _ k);
      up = λ i l. leb-true _ _ (all_at (climbs s) (rows s) i l (and_right _ _ k));
    }

-- the starts as a loop over them tests them, once the first and the last are right
pub starts_decide : (s : List ℕ) → start s 0 ≡ 0 → start s (rows s) ≡ entries s → all (rows s) (climbs s) ≡ starts_valid s
unfolding starts_valid ◌and◌
starts_decide s f l = rw (eq-eqb _ _ f, eq-eqb _ _ l)

-- no start is above the last: from the last one downwards
start_most : (s : List ℕ) → Starts s → (n i : ℕ) → n + i ≡ rows s → start s i ≤ entries s
start_most s h zero i e = let q : i ≡ rows s = omega arith in rw q (omega (arith, h.last))
start_most s h (suc n) i e =
    le_trans (h.up i (omega arith)) (start_most s h n (i + 1) (omega arith))

-- where a row's entries lie
pub row_span : (s : List ℕ) → Starts s → (i : ℕ) → i < rows s → RowSpan s i
row_span s h i l = record {
  row = l;
  up = h.up i l;
  top = start_most s h (rows s - (i + 1)) (i + 1) (omega arith);
}

pub matrix_facts : (s : List ℕ) → valid s ≡ true → Matrix s
unfolding valid rows_valid
matrix_facts s h =
    let k = and_right _ _ h in
    record {
      header = header_facts s (and_left _ _ h);
      starts = starts_facts s (and_left _ _ k);
      rising = λ i l. all_at (row_rises s) (rows s) i l (and_right _ _ k);
    }

pub matrix_made : (s : List ℕ) → Matrix s → valid s ≡ true
unfolding valid rows_valid
matrix_made s m =
    and_both (header_made s m.header) (and_both (starts_made s m.starts) (all_made (row_rises s) (rows s) m.rising))
