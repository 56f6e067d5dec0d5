-- What the workspace holds after i rows were staged: their starts, and their columns and values one after the other.
use Prim.Native.Nat.{ℕ, ◌+◌, ◌≤◌, ◌<◌}
use native.Mathlib.Omega.{arith}
use native.Mathlib.Decide.{dec_lt}
use native.Mathlib.Numerals.{add-one}
use native.Mathlib.Nat.{add-zero}
use mathlib.Core.Path.{◌≡◌, refl, sym, ap, ◌∙◌}
use mathlib.Core.List.{List, ◌++◌}
use lib.ListN.{length, set, length-set, length-append}
use lib.Seq.{get_or-set_same, get_or-set_other}
use Rattle.words.specs.Words.{at, part, overwrite}
use Rattle.words.proofs.Parts.{part_empty, part_append}
use Rattle.words.proofs.Overwrite.{
  part_same,
  overwrite_length,
  overwrite_before,
  overwrite_part_before,
  overwrite_part_after,
  overwrite_here,
}
use Rattle.grid.specs.Grid.{Grid}
use Rattle.grid.specs.Entries.{column, value, gather, flatten}
use Rattle.matrix.specs.Layout.{starts_at, columns_at, start}
use Rattle.encoding.specs.Encode.{entries_before}
use Rattle.results.specs.Staging.{staged_at, RowBounds, staged_row, Staged}

-- a part without the word that was set
pub part_set_other : (a e i v : ℕ) (s : List ℕ) → e ≤ length s → ((k : ℕ) → a ≤ k → k < e → k ≡ i → ⊥)
    → part a e (set s i v) ≡ part a e s
part_set_other a e i v s h f =
    part_same a e (set s i v) s (simp length-set h) h (λ k l m. get_or-set_other s i k v 0 (f k l m))

pub staged_none : (g : Grid) (w : List ℕ) → Staged g 0 0 w
unfolding flatten
staged_none g w = record {
  count = refl;
  starts = λ k l. absurd (omega arith);
  columns = rw add-zero (part_empty (columns_at g.rows) w);
  values = part_empty staged_at w;
}

module _ (g : Grid) (i n : ℕ) (cs vs w : List ℕ) (b : RowBounds g.rows i n cs vs w) (s : Staged g i n w)
    (c : cs ≡ gather column g.cols (g.cell i)) (v : vs ≡ gather value g.cols (g.cell i)) where
  -- the workspace after the start, and after the columns
  abbrev w₁ : List ℕ
  w₁ = set w (i + starts_at) n

  abbrev w₂ : List ℕ
  w₂ = overwrite (columns_at g.rows + n) cs w₁

  length₁ : length w₁ ≡ length w
  length₁ = length-set w (i + starts_at) n

  room₂ : columns_at g.rows + n + length cs ≤ length w₁
  room₂ = omega (arith, length₁)

  length₂ : length w₂ ≡ length w
  length₂ = overwrite_length (columns_at g.rows + n) cs w₁ room₂ ∙ length₁

  room₃ : staged_at + n + length vs ≤ length w₂
  room₃ = omega (arith, length₂)

  -- the starts
  start_kept : (k : ℕ) → k < i + 1 → start (staged_row g.rows i n cs vs w) k ≡ at w₁ (k + starts_at)
  start_kept k l =
      overwrite_before (staged_at + n) vs w₂ room₃ (k + starts_at) (omega arith)
      ∙ overwrite_before (columns_at g.rows + n) cs w₁ room₂ (k + starts_at) (omega arith)

  starts_more : (k : ℕ) → k < i + 1 → start (staged_row g.rows i n cs vs w) k ≡ entries_before g k
  starts_more k l = start_kept k l ∙ go (dec_lt k i)
    where
      go : Dec (k < i) → at w₁ (k + starts_at) ≡ entries_before g k
      go (yes d) = get_or-set_other w (i + starts_at) (k + starts_at) n 0 (λ e. omega arith) ∙ s.starts k d
      go (no d) =
          let e : k ≡ i = omega arith in
          rw e (get_or-set_same w (i + starts_at) n 0 (omega arith) ∙ s.count)

  -- the columns
  columns_more : part (columns_at g.rows) (columns_at g.rows + (n + length cs)) (staged_row g.rows i n cs vs w)
      ≡ flatten column g.cols g.cell (i + 1)
  unfolding flatten
  columns_more =
      let a = columns_at g.rows in
      let e : a + (n + length cs) ≡ a + n + length cs = omega arith in
      rw (e, add-one i)
      (overwrite_part_before (staged_at + n) vs w₂ room₃ a (a + n + length cs) (omega arith)
      ∙ part_append a (a + n) (a + n + length cs) w₂ (omega arith) (omega arith)
      ∙ ap (λ (l : List ℕ). part a (a + n) w₂ ++ l) (overwrite_here (a + n) cs w₁ room₂ ∙ c)
      ∙ ap (λ (l : List ℕ). l ++ gather column g.cols (g.cell i))
      (overwrite_part_before (a + n) cs w₁ room₂ a (a + n) (omega arith)
      ∙ part_set_other a (a + n) (i + starts_at) n w (omega arith) (λ k p q e. omega arith)
      ∙ s.columns))

  -- the values
  values_more : part staged_at (staged_at + (n + length cs)) (staged_row g.rows i n cs vs w)
      ≡ flatten value g.cols g.cell (i + 1)
  unfolding flatten
  values_more =
      let a = columns_at g.rows in
      let e : staged_at + (n + length cs) ≡ staged_at + n + length vs = omega arith in
      rw (e, add-one i)
      (part_append staged_at (staged_at + n) (staged_at + n + length vs) (staged_row g.rows i n cs vs w)
      (omega arith) (omega arith)
      ∙ ap (λ (l : List ℕ). part staged_at (staged_at + n) (staged_row g.rows i n cs vs w) ++ l)
      (overwrite_here (staged_at + n) vs w₂ room₃ ∙ v)
      ∙ ap (λ (l : List ℕ). l ++ gather value g.cols (g.cell i))
      (overwrite_part_before (staged_at + n) vs w₂ room₃ staged_at (staged_at + n) (omega arith)
      ∙ overwrite_part_after (a + n) cs w₁ room₂ staged_at (staged_at + n) (omega arith) (omega (arith, length₁))
      ∙ part_set_other staged_at (staged_at + n) (i + starts_at) n w (omega arith) (λ k p q e. omega arith)
      ∙ s.values))

  -- one more row is staged
  pub staged_more : Staged g (i + 1) (n + length cs) (staged_row g.rows i n cs vs w)
  unfolding flatten
  staged_more = record {
    count = rw (add-one i) (sym (length-append (flatten column g.cols g.cell i) (gather column g.cols (g.cell i))
        ∙ omega (arith, s.count, ap length c)));
    starts = starts_more;
    columns = columns_more;
    values = values_more;
  }
