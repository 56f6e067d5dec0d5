-- The part that is shown lies within the largest matrix: for a caller that puts the place into a number.
use Prim.Native.Nat.{ℕ, ◌≤◌}
use native.Mathlib.Omega.{arith}
use mathlib.Core.Path.{◌≡◌, refl}
use mathlib.Core.List.{List}
use mathlib.Core.Bool.{Bool, true, false, cond}
use Rattle.matrix.specs.Layout.{max_matrix_words}
use Rattle.matrix.specs.Facts.{Header, RowSpan}
use Rattle.matrix.proofs.Facts.{matrix_facts}
use Rattle.row_view.specs.declared.Section.{Section}
use Rattle.row_view.specs.declared.Section.TheVariants.{Columns, Values}
use Rattle.row_view.specs.declared.Place.{Place}
use Rattle.row_view.specs.View.{first, second, nothing, section_from, section_to, viewable, row_empty, row_view, place_of}
use Rattle.row_view.proofs.Views.{Viewable, viewable_facts, span_first, span_second}

-- from where on, and how many words
pub record Within (p : Place) : Type 0 where
  pub from : p.from ≤ max_matrix_words
  pub count : p.count ≤ max_matrix_words

-- a section of a row
pub section_within : (section : Section) (s : List ℕ) (i : ℕ) → Header s → RowSpan s i
    → section_to section s i ≤ max_matrix_words × section_from section s i ≤ max_matrix_words
section_within Columns s i h r = (omega arith, omega arith)
section_within Values s i h r = (omega arith, omega arith)

pub first_within : (x y : ℕ) → y ≤ max_matrix_words × x ≤ max_matrix_words → Within (place_of (first x y))
first_within x y b = record { from = b.1; count = omega (arith, b.0) }

pub second_within : (x y : ℕ) → y ≤ max_matrix_words × x ≤ max_matrix_words → Within (place_of (second x y))
second_within x y b = record { from = b.1; count = omega (arith, b.0) }

module _ (section : Section) (a b : List ℕ) (i : ℕ) where
  -- by the two tests of `row_view`
  by_tests : (shows empty : Bool) → (shows ≡ true → Viewable a b i)
      → Within (place_of (cond shows
      (cond empty
      (second (section_from section b i) (section_to section b i))
      (first (section_from section a i) (section_to section a i)))
      nothing))
  by_tests false empty h = first_within 0 0 (omega arith, omega arith)
  by_tests true true h =
      let v = h refl in
      second_within _ _ (section_within section b i (matrix_facts b v.second).header (span_second a b i v))
  by_tests true false h =
      let v = h refl in
      first_within _ _ (section_within section a i (matrix_facts a v.first).header (span_first a b i v))

  pub view_within : Within (place_of (row_view section a b i))
  unfolding row_view
  view_within = by_tests (viewable a b i) (row_empty a i) (viewable_facts a b i)
