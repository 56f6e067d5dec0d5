-- The words after an entry was taken out, section by section.
use Rattle.std.proofs.Common.{None, Some}
use Prim.Native.Nat.{ℕ, ◌+◌, ◌-◌, ◌≤◌, ◌<◌}
use native.Mathlib.Omega.{arith}
use mathlib.Core.Path.{◌≡◌, ◌∙◌}
use mathlib.Core.List.{List}
use lib.ListN.{length, set, length-set}
use lib.Seq.{get_or-set_same, get_or-set_other}
use Rattle.words.specs.Words.{at}
use Rattle.grid.specs.Entries.{one}
use Rattle.grid.specs.Position.{PresentAt}
use Rattle.matrix.specs.Layout.{starts_at, count_at, columns_at, count_again_at, values_at, size_of, rows, entries, grid_of}
use Rattle.matrix.specs.HeaderWords.{touched}
use Rattle.edits.specs.Changes.{InMatrix, updated, TakeBounds, moved, closed, entry_taken, shifted, Mapped}
use Rattle.edits.proofs.Place.{present_below, later_starts}
use Rattle.edits.proofs.Moves.{moved_length, moved_here, moved_before, moved_after}
use Rattle.edits.proofs.Located.{located_none}
use Rattle.edits.proofs.Change.{Changed, changed_written}

-- the words after `take_entry`, each from the words before it
module _ (r n p : ℕ) (w : List ℕ) (b : TakeBounds r n p w) where
  -- where the column and the value of entry p stand at first
  abbrev column_at : ℕ
  column_at = columns_at r + p

  abbrev value_at : ℕ
  value_at = values_at r n + p

  -- after the first move, after both, and after the store of the first count
  abbrev w₁ : List ℕ
  w₁ = moved (column_at + 1) column_at n w

  abbrev w₂ : List ℕ
  w₂ = closed r n p w

  abbrev w₃ : List ℕ
  w₃ = set w₂ (count_at r) (n - 1)

  abbrev result : List ℕ
  result = entry_taken r n p w

  length₁ : length w₁ ≡ length w
  length₁ = moved_length (column_at + 1) column_at n w (omega arith) (omega arith)

  -- the second move is within the words
  from₂ : value_at + 1 + (n - p - 1) ≤ length w₁
  from₂ = omega (arith, length₁)

  to₂ : value_at - 1 + (n - p - 1) ≤ length w₁
  to₂ = omega (arith, length₁)

  length₂ : length w₂ ≡ length w
  length₂ = moved_length (value_at + 1) (value_at - 1) (n - p - 1) w₁ from₂ to₂ ∙ length₁

  length_taken : length result ≡ length w
  length_taken = simp length-set length₂

  -- the two words that are stored
  count_taken : at result (count_at r) ≡ n - 1
  count_taken =
      get_or-set_other w₃ (count_again_at r (n - 1)) (count_at r) (n - 1) 0 (λ e. omega arith)
      ∙ get_or-set_same w₂ (count_at r) (n - 1) 0 (omega (arith, length₂))

  again_taken : at result (count_again_at r (n - 1)) ≡ n - 1
  again_taken = get_or-set_same w₃ (count_again_at r (n - 1)) (n - 1) 0 (simp length-set (omega (arith, length₂)))

  -- every other word
  kept : (k : ℕ) → (k ≡ count_at r → ⊥) → (k ≡ count_again_at r (n - 1) → ⊥) → at result k ≡ at w₂ k
  kept k f₁ f₂ =
      get_or-set_other w₃ (count_again_at r (n - 1)) k (n - 1) 0 f₂ ∙ get_or-set_other w₂ (count_at r) k (n - 1) 0 f₁

  -- words before the column stay
  taken_before : (k : ℕ) → k < column_at → (k ≡ count_at r → ⊥) → at result k ≡ at w k
  taken_before k l f =
      kept k f (λ e. omega arith)
      ∙ moved_before (value_at + 1) (value_at - 1) (n - p - 1) w₁ from₂ to₂ k (omega arith)
      ∙ moved_before (column_at + 1) column_at n w (omega arith) (omega arith) k l

  -- words behind the column up to the value were one further, but for the count
  taken_one : (k m : ℕ) → k + 1 ≡ m → column_at < m → m < value_at → (m ≡ count_again_at r n → ⊥) → at result k ≡ at w m
  taken_one k m e l h f =
      kept k (λ q. omega arith) (λ q. f (omega arith))
      ∙ moved_before (value_at + 1) (value_at - 1) (n - p - 1) w₁ from₂ to₂ k (omega arith)
      ∙ moved_here (column_at + 1) column_at n w (omega arith) (omega arith) k m (omega arith) (omega arith) (omega arith)

  -- words behind the value up to the end were two further
  taken_two : (k m : ℕ) → k + 2 ≡ m → value_at < m → m < size_of r n → at result k ≡ at w m
  taken_two k m e l h =
      kept k (λ q. omega arith) (λ q. omega arith)
      ∙ moved_here (value_at + 1) (value_at - 1) (n - p - 1) w₁ from₂ to₂ k m
      (omega arith) (omega arith) (omega arith)
      ∙ moved_after (column_at + 1) column_at n w (omega arith) (omega arith) m (omega arith)

  -- words behind the new end stay
  taken_after : (k : ℕ) → size_of r (n - 1) ≤ k → at result k ≡ at w k
  taken_after k l =
      kept k (λ q. omega arith) (λ q. omega arith)
      ∙ moved_after (value_at + 1) (value_at - 1) (n - p - 1) w₁ from₂ to₂ k (omega arith)
      ∙ moved_after (column_at + 1) column_at n w (omega arith) (omega arith) k (omega arith)

-- the words after `remove_entry`: the starts behind row i are lowered, and then the entry is taken out
module _ {s w : List ℕ} {i j p : ℕ} (m : InMatrix s i j) (place : PresentAt (grid_of s) i j p)
    (h : Mapped (shifted 0 1) (i + 1 + starts_at) (rows s + 1 + starts_at) s w) where
  -- what `take_entry` requires
  pub take_bounds : TakeBounds (rows s) (entries s) p w
  take_bounds = record {
    rows = m.matrix.header.row_range.most;
    few = m.matrix.header.few;
    position = present_below m place;
    space = omega (arith, m.matrix.header.fits, h.same);
  }

  -- each section of the words
  removed : Changed s (entry_taken (rows s) (entries s) p w) i j p (entries s - 1) (Some place.value) None
  unfolding one
  removed =
      let r = rows s in
      let n = entries s in
      let b = take_bounds in
      let l = m.row in
      let u = present_below m place in
      let z = m.matrix.header.fits in
      let g = later_starts m (Some place.value) place.cell in
      let long = length_taken r n p w b in
      let before = taken_before r n p w b in
      let down_one = taken_one r n p w b in
      let down_two = taken_two r n p w b in
      record {
        same = long ∙ h.same;
        fits = omega arith;
        number = omega arith;
        head = λ k c. before k (omega arith) (λ e. omega arith) ∙ h.before k (omega arith);
        starts_low = λ k c.
            before (k + starts_at) (omega arith) (λ e. omega arith) ∙ h.before (k + starts_at) (omega arith);
        starts_high = λ k c d.
            omega (
              arith,
              before (k + starts_at) (omega arith) (λ e. omega arith),
              h.within (k + starts_at) (omega arith) (omega arith),
              g.least (k + starts_at) (omega arith) (omega arith),
            );
        count = count_taken r n p w b;
        columns_low = λ k c d. before k d (λ e. omega arith) ∙ h.after k (omega arith);
        column_here = located_none (omega (arith, long, h.same));
        columns_high = λ k o e c d.
            down_one k o (omega arith) (omega arith) (omega arith) (λ q. omega arith) ∙ h.after o (omega arith);
        again = again_taken r n p w b;
        values_low = λ k o e c d.
            down_one k o (omega arith) (omega arith) (omega arith) (λ q. omega arith) ∙ h.after o (omega arith);
        value_here = located_none (omega (arith, long, h.same));
        values_high = λ k o e c d. down_two k o (omega arith) (omega arith) d ∙ h.after o (omega arith);
        spare = λ k c. taken_after r n p w b k c ∙ h.after k (omega arith);
      }

  -- so they are the writing of the grid without the entry
  pub removed_written : touched (entry_taken (rows s) (entries s) p w) ≡ updated s i j None
  removed_written = changed_written m place.cell place.position removed
