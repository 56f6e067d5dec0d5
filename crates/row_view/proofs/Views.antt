-- The cases of `viewable` and `row_view`, as the code reaches them.
use Prim.Native.Nat.{ℕ, ◌+◌, ◌-◌, ◌<◌}
use native.Mathlib.Omega.{arith}
use mathlib.Core.Path.{◌≡◌, refl, ap}
use mathlib.Core.List.{List}
use mathlib.Core.Bool.{Bool, true, false}
use denote.Ref.{Bor}
use lib.ListN.{length}
use lib.Dec.{ltb}
use borrow.Author.Tests.{eq-eqb, ne_eqb, eqb-true, ltb-true}
use Rattle.conditions.specs.Tests.{◌and◌}
use Rattle.words.specs.Lent.{PartOf}
use Rattle.conditions.proofs.Tests.{and_left, and_right}
use Rattle.matrix.specs.Layout.{rows, cols, start, row_columns}
use Rattle.matrix.specs.Valid.{valid}
use Rattle.matrix.specs.Facts.{Header, RowSpan}
use Rattle.matrix.proofs.Facts.{matrix_facts, row_span}
use Rattle.matrix.proofs.Rows.{columns_length}
use Rattle.row_view.specs.declared.Section.{Section}
use Rattle.row_view.specs.declared.Section.TheVariants.{Columns, Values}
use Rattle.row_view.specs.View.{section_from, section_to, viewable, row_empty, row_view, Shown, placed, place_in, place_of}

-- what the test says
pub record Viewable (a b : List ℕ) (i : ℕ) : Type 0 where
  pub first : valid a ≡ true
  pub second : valid b ≡ true
  pub same_rows : rows a ≡ rows b
  pub same_cols : cols a ≡ cols b
  pub row : i < rows a

module _ (a b : List ℕ) (i : ℕ) where
  pub viewable_facts : viewable a b i ≡ true → Viewable a b i
  unfolding viewable
  viewable_facts h₀ =
      let h₁ = and_right _ _ h₀ in
      let h₂ = and_right _ _ h₁ in
      let h₃ = and_right _ _ h₂ in
      record {
        first = and_left _ _ h₀;
        second = and_left _ _ h₁;
        same_rows = eqb-true _ _ (and_left _ _ h₂);
        same_cols = eqb-true _ _ (and_left _ _ h₃);
        row = ltb-true _ _ (and_right _ _ h₃);
      }

  -- past the other tests, the row decides
  pub row_decides : valid a ≡ true → valid b ≡ true → rows a ≡ rows b → cols a ≡ cols b
      → ltb i (rows a) ≡ viewable a b i
  unfolding viewable ◌and◌
  row_decides v w r c = rw (v, w, eq-eqb _ _ r, eq-eqb _ _ c)

  -- row i lies in either matrix
  pub span_first : Viewable a b i → RowSpan a i
  span_first h = row_span a (matrix_facts a h.first).starts i h.row

  pub span_second : Viewable a b i → RowSpan b i
  span_second h = row_span b (matrix_facts b h.second).starts i (omega (arith, h.row, h.same_rows))

  -- how many column numbers row i of the first matrix has
  row_length : Viewable a b i → length (row_columns a i) + start a i ≡ start a (i + 1)
  row_length h = columns_length a i (matrix_facts a h.first).header (span_first h)

  pub row_empty_lem : Viewable a b i → (cs : List ℕ) → cs ≡ row_columns a i → length cs ≡ 0 → row_empty a i ≡ true
  row_empty_lem h cs e z =
      let s : start a i ≡ start a (i + 1) = omega (arith, row_length h, ap length e) in
      eq-eqb _ _ s

  pub row_filled : Viewable a b i → (cs : List ℕ) → cs ≡ row_columns a i → (length cs ≡ 0 → ⊥)
      → row_empty a i ≡ false
  row_filled h cs e z =
      let f : start a i ≡ start a (i + 1) → ⊥ = λ s. z (omega (arith, row_length h, ap length e)) in
      ne_eqb _ _ f

-- the place of a part, from where it begins and how many words it has
pub place_made : (inSecond : Bool) (n x y : ℕ) → n + x ≡ y → placed inSecond x n ≡ place_in inSecond x y
place_made inSecond n x y e = let counted : n ≡ y - x = omega (arith, e) in ap (placed inSecond x) counted

-- a section of row i has as many words as the row has column numbers
pub section_length : (section : Section) (s cs : List ℕ) (i : ℕ) → Header s → RowSpan s i → cs ≡ row_columns s i
    → length cs + section_from section s i ≡ section_to section s i
section_length Columns s cs i h r e = omega (arith, columns_length s i h r, ap length e)
section_length Values s cs i h r e = omega (arith, columns_length s i h r, ap length e)

module _ (section : Section) (a b : List ℕ) (i : ℕ) where
  pub placed_nothing : viewable a b i ≡ false → place_in false 0 0 ≡ place_of (row_view section a b i)
  unfolding row_view
  placed_nothing h = rw h refl

  pub placed_second : viewable a b i ≡ true → row_empty a i ≡ true
      → place_in true (section_from section b i) (section_to section b i) ≡ place_of (row_view section a b i)
  unfolding row_view
  placed_second h e = rw (h, e) refl

  pub placed_first : viewable a b i ≡ true → row_empty a i ≡ false
      → place_in false (section_from section a i) (section_to section a i) ≡ place_of (row_view section a b i)
  unfolding row_view
  placed_first h e = rw (h, e) refl

module _ (section : Section) (r a b : Bor (List ℕ)) (i : ℕ) where
  pub shown_nothing : viewable a.now b.now i ≡ false → PartOf r a 0 0
      → Shown r a b (row_view section a.now b.now i)
  unfolding row_view
  shown_nothing h p = rw h p

  pub shown_second : viewable a.now b.now i ≡ true → row_empty a.now i ≡ true
      → PartOf r b (section_from section b.now i) (section_to section b.now i)
      → Shown r a b (row_view section a.now b.now i)
  unfolding row_view
  shown_second h e p = rw (h, e) p

  pub shown_first : viewable a.now b.now i ≡ true → row_empty a.now i ≡ false
      → PartOf r a (section_from section a.now i) (section_to section a.now i)
      → Shown r a b (row_view section a.now b.now i)
  unfolding row_view
  shown_first h e p = rw (h, e) p
