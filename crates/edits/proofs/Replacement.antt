-- The words after the value of an entry was replaced, section by section.
use Rattle.std.proofs.Common.{Some}
use Prim.Native.Nat.{ℕ, ◌+◌}
use native.Mathlib.Omega.{arith}
use mathlib.Core.Path.{◌≡◌, ap, ◌∙◌}
use mathlib.Core.List.{List}
use lib.ListN.{set, length-set}
use lib.Seq.{get_or-set_same, get_or-set_other}
use Rattle.words.specs.Words.{at}
use Rattle.grid.specs.Entries.{one}
use Rattle.grid.specs.Position.{PresentAt}
use Rattle.matrix.specs.Layout.{starts_at, columns_at, values_at, rows, entries, grid_of}
use Rattle.matrix.specs.HeaderWords.{touched}
use Rattle.edits.specs.Changes.{InMatrix, updated}
use Rattle.edits.proofs.Place.{present_below}
use Rattle.edits.proofs.Located.{located_one, located_moved}
use Rattle.edits.proofs.Change.{Changed, own_column, changed_written}

module _ {s : List ℕ} {i j p : ℕ} (m : InMatrix s i j) (place : PresentAt (grid_of s) i j p) where
  abbrev value_at : ℕ
  value_at = values_at (rows s) (entries s) + p

  -- each section of the words
  replaced : (v : ℕ) → Changed s (set s value_at v) i j p (entries s) (Some place.value) (Some v)
  unfolding one
  replaced v =
      let r = rows s in
      let n = entries s in
      let u = present_below m place in
      let z = m.matrix.header in
      let l = length-set s value_at v in
      let kept : (k o : ℕ) → k ≡ o → (o ≡ value_at → ⊥) → at (set s value_at v) k ≡ at s o =
      λ k o e d. ap (at (set s value_at v)) e ∙ get_or-set_other s value_at o v 0 d in
      record {
        same = l;
        fits = z.fits;
        number = omega arith;
        head = λ k c. kept k k (omega arith) (λ e. omega arith);
        starts_low = λ k c. kept (k + starts_at) (k + starts_at) (omega arith) (λ e. omega (arith, m.row));
        starts_high = λ k c d. omega (arith, kept (k + starts_at) (k + starts_at) (omega arith) (λ e. omega arith));
        count = kept _ _ (omega arith) (λ e. omega arith);
        columns_low = λ k c d. kept k k (omega arith) (λ e. omega arith);
        column_here =
            located_moved (columns_at r + p) (own_column m place.cell place.position) (omega arith)
            (λ k c. kept (columns_at r + p + k) (columns_at r + p + k) (omega arith) (λ e. omega arith));
        columns_high = λ k o e c d. kept k o (omega arith) (λ q. omega arith);
        again = kept _ _ (omega arith) (λ e. omega arith) ∙ z.again;
        values_low = λ k o e c d. kept k o (omega arith) (λ q. omega arith);
        value_here = located_one (omega (arith, z.fits)) (get_or-set_same s value_at v 0 (omega (arith, z.fits)));
        values_high = λ k o e c d. kept k o (omega arith) (λ q. omega arith);
        spare = λ k c. kept k k (omega arith) (λ e. omega arith);
      }

  -- so they are the writing of the grid with the value
  pub replaced_written : (v : ℕ) → touched (set s value_at v) ≡ updated s i j (Some v)
  replaced_written v = changed_written m place.cell place.position (replaced v)
