-- The words after an entry was put in, section by section.
use Rattle.std.proofs.Common.{None, Some}
use Prim.Native.Nat.{ℕ, ◌+◌, ◌-◌, ◌≤◌, ◌<◌}
use native.Mathlib.Omega.{arith}
use mathlib.Core.Path.{◌≡◌, ◌∙◌}
use mathlib.Core.List.{List}
use lib.ListN.{length, set, length-set}
use lib.Seq.{get_or-set_same, get_or-set_other}
use Rattle.words.specs.Words.{at}
use Rattle.grid.specs.Entries.{one}
use Rattle.grid.specs.Position.{AbsentAt}
use Rattle.matrix.specs.Layout.{starts_at, count_at, columns_at, count_again_at, values_at, size_of, rows, entries, grid_of}
use Rattle.matrix.specs.HeaderWords.{touched}
use Rattle.edits.specs.Changes.{InMatrix, updated, HasSpace, PutBounds, moved, spread, entry_put, shifted, Mapped}
use Rattle.edits.proofs.Place.{absent_within}
use Rattle.edits.proofs.Moves.{moved_length, moved_here, moved_before, moved_after}
use Rattle.edits.proofs.Located.{located_one}
use Rattle.edits.proofs.Change.{Changed, changed_written}

-- the words after `put_entry`, each from the words before it
module _ (r n p j v : ℕ) (w : List ℕ) (b : PutBounds r n p w) where
  -- where the column and the value of entry p stand at first
  abbrev column_at : ℕ
  column_at = columns_at r + p

  abbrev value_at : ℕ
  value_at = values_at r n + p

  -- after the first move, and after both
  abbrev w₁ : List ℕ
  w₁ = moved value_at (value_at + 2) (n - p) w

  abbrev w₂ : List ℕ
  w₂ = spread r n p w

  length₁ : length w₁ ≡ length w
  length₁ = moved_length value_at (value_at + 2) (n - p) w (omega arith) (omega arith)

  -- the second move is within the words
  from₂ : column_at + (n + 1) ≤ length w₁
  from₂ = omega (arith, length₁)

  to₂ : column_at + 1 + (n + 1) ≤ length w₁
  to₂ = omega (arith, length₁)

  length₂ : length w₂ ≡ length w
  length₂ = moved_length column_at (column_at + 1) (n + 1) w₁ from₂ to₂ ∙ length₁

  -- after the stores of the column, the value and the first count
  abbrev w₃ : List ℕ
  w₃ = set w₂ column_at j

  abbrev w₄ : List ℕ
  w₄ = set w₃ (value_at + 1) v

  abbrev w₅ : List ℕ
  w₅ = set w₄ (count_at r) (n + 1)

  abbrev result : List ℕ
  result = entry_put r n p j v w

  length_put : length result ≡ length w
  length_put = simp length-set length₂

  -- the four words that are stored
  column_put : at result column_at ≡ j
  column_put =
      get_or-set_other w₅ (count_again_at r (n + 1)) column_at (n + 1) 0 (λ e. omega arith)
      ∙ get_or-set_other w₄ (count_at r) column_at (n + 1) 0 (λ e. omega arith)
      ∙ get_or-set_other w₃ (value_at + 1) column_at v 0 (λ e. omega arith)
      ∙ get_or-set_same w₂ column_at j 0 (omega (arith, length₂))

  value_put : at result (value_at + 1) ≡ v
  value_put =
      get_or-set_other w₅ (count_again_at r (n + 1)) (value_at + 1) (n + 1) 0 (λ e. omega arith)
      ∙ get_or-set_other w₄ (count_at r) (value_at + 1) (n + 1) 0 (λ e. omega arith)
      ∙ get_or-set_same w₃ (value_at + 1) v 0 (simp length-set (omega (arith, length₂)))

  count_put : at result (count_at r) ≡ n + 1
  count_put =
      get_or-set_other w₅ (count_again_at r (n + 1)) (count_at r) (n + 1) 0 (λ e. omega arith)
      ∙ get_or-set_same w₄ (count_at r) (n + 1) 0 (simp length-set (omega (arith, length₂)))

  again_put : at result (count_again_at r (n + 1)) ≡ n + 1
  again_put = get_or-set_same w₅ (count_again_at r (n + 1)) (n + 1) 0 (simp length-set (omega (arith, length₂)))

  -- every other word
  kept : (k : ℕ) → (k ≡ column_at → ⊥) → (k ≡ value_at + 1 → ⊥) → (k ≡ count_at r → ⊥)
      → (k ≡ count_again_at r (n + 1) → ⊥) → at result k ≡ at w₂ k
  kept k f₁ f₂ f₃ f₄ =
      get_or-set_other w₅ (count_again_at r (n + 1)) k (n + 1) 0 f₄ ∙ get_or-set_other w₄ (count_at r) k (n + 1) 0 f₃
      ∙ get_or-set_other w₃ (value_at + 1) k v 0 f₂ ∙ get_or-set_other w₂ column_at k j 0 f₁

  -- words before the column stay
  put_before : (k : ℕ) → k < column_at → (k ≡ count_at r → ⊥) → at result k ≡ at w k
  put_before k l f =
      kept k (λ e. omega arith) (λ e. omega arith) f (λ e. omega arith)
      ∙ moved_before column_at (column_at + 1) (n + 1) w₁ from₂ to₂ k (omega arith)
      ∙ moved_before value_at (value_at + 2) (n - p) w (omega arith) (omega arith) k (omega arith)

  -- words from the column up to the value are one further, but for the count
  put_one : (k m : ℕ) → k ≡ m + 1 → column_at ≤ m → m < value_at → (m ≡ count_again_at r n → ⊥) → at result k ≡ at w m
  put_one k m e l h f =
      kept k (λ q. omega arith) (λ q. omega arith) (λ q. omega arith) (λ q. f (omega arith))
      ∙ moved_here column_at (column_at + 1) (n + 1) w₁ from₂ to₂ k m
      (omega arith) (omega arith) (omega arith)
      ∙ moved_before value_at (value_at + 2) (n - p) w (omega arith) (omega arith) m (omega arith)

  -- words from the value up to the end are two further
  put_two : (k m : ℕ) → k ≡ m + 2 → value_at ≤ m → m < size_of r n → at result k ≡ at w m
  put_two k m e l h =
      kept k (λ q. omega arith) (λ q. omega arith) (λ q. omega arith) (λ q. omega arith)
      ∙ moved_after column_at (column_at + 1) (n + 1) w₁ from₂ to₂ k (omega arith)
      ∙ moved_here value_at (value_at + 2) (n - p) w (omega arith) (omega arith) k m
      (omega arith) (omega arith) (omega arith)

  -- words behind stay
  put_after : (k : ℕ) → size_of r n + 2 ≤ k → at result k ≡ at w k
  put_after k l =
      kept k (λ q. omega arith) (λ q. omega arith) (λ q. omega arith) (λ q. omega arith)
      ∙ moved_after column_at (column_at + 1) (n + 1) w₁ from₂ to₂ k (omega arith)
      ∙ moved_after value_at (value_at + 2) (n - p) w (omega arith) (omega arith) k (omega arith)

-- the words after `insert_entry`: the starts behind row i are raised, and then the entry is put in
module _ {s w : List ℕ} {i j p : ℕ} (m : InMatrix s i j) (place : AbsentAt (grid_of s) i j p) (a : HasSpace s)
    (h : Mapped (shifted 1 0) (i + 1 + starts_at) (rows s + 1 + starts_at) s w) where
  -- what `put_entry` requires
  pub put_bounds : PutBounds (rows s) (entries s) p w
  put_bounds = record {
    rows = m.matrix.header.row_range.most;
    few = a.few;
    position = absent_within m place;
    space = omega (arith, a.space, h.same);
  }

  -- each section of the words
  inserted : (v : ℕ) → Changed s (entry_put (rows s) (entries s) p j v w) i j p (entries s + 1) None (Some v)
  unfolding one
  inserted v =
      let r = rows s in
      let n = entries s in
      let b = put_bounds in
      let l = m.row in
      let long = length_put r n p j v w b in
      let before = put_before r n p j v w b in
      let up_one = put_one r n p j v w b in
      let up_two = put_two r n p j v w b in
      record {
        same = long ∙ h.same;
        fits = omega (arith, a.space);
        number = omega arith;
        head = λ k c. before k (omega arith) (λ e. omega arith) ∙ h.before k (omega arith);
        starts_low = λ k c.
            before (k + starts_at) (omega arith) (λ e. omega arith) ∙ h.before (k + starts_at) (omega arith);
        starts_high = λ k c d.
            omega (
              arith,
              before (k + starts_at) (omega arith) (λ e. omega arith),
              h.within (k + starts_at) (omega arith) (omega arith),
            );
        count = count_put r n p j v w b;
        columns_low = λ k c d. before k d (λ e. omega arith) ∙ h.after k (omega arith);
        column_here = located_one (omega (arith, long)) (column_put r n p j v w b);
        columns_high = λ k o e c d.
            up_one k o (omega arith) (omega arith) (omega arith) (λ q. omega arith) ∙ h.after o (omega arith);
        again = again_put r n p j v w b;
        values_low = λ k o e c d.
            up_one k o (omega arith) (omega arith) (omega arith) (λ q. omega arith) ∙ h.after o (omega arith);
        value_here =
            let q : values_at r (n + 1) + p ≡ values_at r n + p + 1 = omega arith in
            rw q (located_one (omega (arith, long)) (value_put r n p j v w b));
        values_high = λ k o e c d. up_two k o (omega arith) (omega arith) d ∙ h.after o (omega arith);
        spare = λ k c. put_after r n p j v w b k (omega arith) ∙ h.after k (omega arith);
      }

  -- so they are the writing of the grid with the entry
  pub inserted_written : (v : ℕ)
      → touched (entry_put (rows s) (entries s) p j v w) ≡ updated s i j (Some v)
  inserted_written v = changed_written m place.cell place.position (inserted v)
