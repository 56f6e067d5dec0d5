-- Rows that have the cells of f inside the mask: f itself, f inside the mask alone, and none where no place is inside.
use Rattle.std.proofs.Common.{None}
use Prim.Native.Nat.{ℕ}
use mathlib.Core.Path.{◌≡◌, refl, sym, ◌∙◌}
use mathlib.Core.List.{List}
use mathlib.Core.Bool.{true, false, false≢true}
use Rattle.grid.specs.Cell.{Cell}
use Rattle.operations.specs.declared.WriteBack.{WriteBack}
use Rattle.operations.specs.WriteBacks.{inside}
use Rattle.rows.specs.Row.{lookup, Holds}
use Rattle.rows.proofs.Holds.{holds_absent}
use Rattle.rows.proofs.Walk.{absent_all}
use Rattle.products.specs.Products.{inside_row}
use Rattle.masked_rows.specs.Inside.{NoneInside, HoldsInside}

module _ {w : WriteBack} {m f : ℕ → Cell} {n e : ℕ} {oc ov : List ℕ} where
  pub inside_all : Holds n f e oc ov → HoldsInside w m n f e oc ov
  inside_all h = record { row = f; holds = h; same = λ j l. refl }

  pub inside_alone : Holds n (inside_row w m f) e oc ov → HoldsInside w m n f e oc ov
  unfolding inside_row
  inside_alone h = record { row = inside_row w m f; holds = h; same = λ j l. rw l }

-- without a place inside no row is asked for
pub inside_no : (w : WriteBack) (mc mv : List ℕ) (n : ℕ) (f : ℕ → Cell) (oc ov : List ℕ) → w.has_mask ≡ true
    → NoneInside w mc → HoldsInside w (lookup mc mv) n f 0 oc ov
inside_no w mc mv n f oc ov k h = record {
  row = λ j. None;
  holds = holds_absent n (λ j. None) oc ov (λ j. refl);
  same = λ j l. absurd (false≢true (sym (outside j) ∙ l));
}
  where
    outside : (j : ℕ) → inside w (lookup mc mv j) ≡ false
    outside j = rw (absent_all mc mv h.none j, h.plain, k)
