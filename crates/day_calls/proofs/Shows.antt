-- The cases of showing a row, as the code reaches them.
use Prim.Native.Nat.{ℕ, ◌<◌}
use native.Mathlib.Omega.{arith}
use mathlib.Core.Path.{◌≡◌, refl, sym}
use mathlib.Core.List.{List}
use mathlib.Core.Bool.{true, false}
use denote.Ref.{Bor}
use lib.Dec.{eqb, ltb}
use borrow.Author.Tests.{ne_eqb, eqb-true, ltb-true}
use Rattle.std.specs.Prelude.{Result, Ok, Err}
use Rattle.std.specs.Result.{is_ok}
use Rattle.answers.specs.declared.Refusal.{Refusal}
use Rattle.answers.specs.Results.{number, code_of}
use Rattle.answers.proofs.Numbers.{number_not_0}
use Rattle.conditions.specs.Tests.{◌and◌}
use Rattle.conditions.proofs.Tests.{and_left, and_right}
use Rattle.words.specs.Lent.{PartOf}
use Rattle.matrix.specs.Layout.{rows, grid_of}
use Rattle.matrix.specs.Facts.{RowSpan}
use Rattle.matrix.proofs.Facts.{row_span}
use Rattle.row_view.specs.declared.Section.{Section}
use Rattle.row_view.specs.View.{Shown, section_from, section_to, place_in, place_of}
use Rattle.day_grids.specs.Day.{marked}
use Rattle.day_marks.specs.Marks.{Vector}
use Rattle.day_requests.specs.Refusal.{pair_refusal}
use Rattle.day_requests.specs.Ready.{Pair}
use Rattle.day_requests.proofs.Readiness.{pair_ready}
use Rattle.day_folds.proofs.Shown.{vector_of_lem}
use Rattle.day_calls.specs.Show.{showable, day_view}

-- matrices that the test finds fitting
module _ (base day marks : List ℕ) where
  pub ready_told : {A : Type 0} (r : Result A Refusal) → is_ok r ≡ true → code_of r ≡ pair_refusal base day marks
      → Pair base day marks
  ready_told (Ok x) t e = pair_ready base day marks (sym e)
  ready_told (Err x) t e = cc

module _ (base day marks : List ℕ) (i : ℕ) where
  -- the test, as the code makes it
  pub not_showable : {A : Type 0} (r : Result A Refusal) → is_ok r ≡ false → code_of r ≡ pair_refusal base day marks
      → false ≡ showable base day marks i
  unfolding showable ◌and◌
  not_showable (Ok x) t e = cc
  not_showable (Err x) t e = rw (← e, ne_eqb (number x) 0 (number_not_0 x))

  pub row_decides : {A : Type 0} (r : Result A Refusal) → is_ok r ≡ true → code_of r ≡ pair_refusal base day marks
      → ltb i (rows base) ≡ showable base day marks i
  unfolding showable ◌and◌
  row_decides (Ok x) t e = rw (← e)
  row_decides (Err x) t e = cc

  -- what it says
  module _ (t : showable base day marks i ≡ true) where
    pub shown_pair : Pair base day marks
    unfolding showable
    shown_pair = pair_ready base day marks (eqb-true _ _ (and_left (eqb (pair_refusal base day marks) 0) _ t))

    shown_row : i < rows base
    unfolding showable
    shown_row = ltb-true _ _ (and_right (eqb (pair_refusal base day marks) 0) _ t)

    pub shown_vector : Vector marks i
    shown_vector = vector_of_lem shown_pair i shown_row

    pub base_span : RowSpan base i
    base_span = row_span base shown_pair.base_valid.starts i shown_row

    pub day_span : RowSpan day i
    day_span = row_span day shown_pair.over.day_valid.starts i (omega (arith, shown_row, shown_pair.same_rows))

-- the part that is shown
module _ (section : Section) (r base day : Bor (List ℕ)) (marks : List ℕ) (i : ℕ) where
  pub shown_nothing : showable base.now day.now marks i ≡ false → PartOf r base 0 0
      → Shown r base day (day_view section base.now day.now marks i)
  unfolding day_view
  shown_nothing h p = rw h p

  pub shown_day : showable base.now day.now marks i ≡ true → marked (grid_of marks) i ≡ true
      → PartOf r day (section_from section day.now i) (section_to section day.now i)
      → Shown r base day (day_view section base.now day.now marks i)
  unfolding day_view
  shown_day h m p = rw (h, m) p

  pub shown_base : showable base.now day.now marks i ≡ true → marked (grid_of marks) i ≡ false
      → PartOf r base (section_from section base.now i) (section_to section base.now i)
      → Shown r base day (day_view section base.now day.now marks i)
  unfolding day_view
  shown_base h m p = rw (h, m) p

-- and its place
module _ (section : Section) (base day marks : List ℕ) (i : ℕ) where
  pub placed_nothing : showable base day marks i ≡ false
      → place_in false 0 0 ≡ place_of (day_view section base day marks i)
  unfolding day_view
  placed_nothing h = rw h refl

  pub placed_day : showable base day marks i ≡ true → marked (grid_of marks) i ≡ true
      → place_in true (section_from section day i) (section_to section day i)
      ≡ place_of (day_view section base day marks i)
  unfolding day_view
  placed_day h m = rw (h, m) refl

  pub placed_base : showable base day marks i ≡ true → marked (grid_of marks) i ≡ false
      → place_in false (section_from section base i) (section_to section base i)
      ≡ place_of (day_view section base day marks i)
  unfolding day_view
  placed_base h m = rw (h, m) refl
