-- What a look at one row over two matrices shows (document 01, "The six operations", last paragraph).
use Rattle.std.specs.Prelude.{ℕ, ◌+◌, ◌-◌, List, Bool, true, false, cond, ltb, eqb}
use Rattle.std.specs.Borrow.{Bor}
use Rattle.conditions.specs.Tests.{◌and◌}
use Rattle.words.specs.Lent.{PartOf}
use Rattle.matrix.specs.Layout.{rows, cols, start, columns_from, values_from}
use Rattle.matrix.specs.Valid.{valid}
use Rattle.row_view.specs.declared.Section.{Section}
use Rattle.row_view.specs.declared.Section.TheVariants.{Columns, Values}
use Rattle.row_view.specs.declared.Place.{Place}

-- where the part lies: in the first matrix or in the second, from a word up to, and not including, a word
pub data View : Type 0 where
  first : ℕ → ℕ → View
  second : ℕ → ℕ → View

-- "the part is empty": the empty part at the front of the first matrix
abbrev pub nothing : View
nothing = first 0 0

-- the section asked, "column numbers or values as asked", of row i
abbrev pub section_from : Section → List ℕ → ℕ → ℕ
section_from Columns s i = columns_from s i
section_from Values s i = values_from s i

abbrev pub section_to : Section → List ℕ → ℕ → ℕ
section_to section s i = section_from section s (i + 1)

-- not so: "If either sheet is damaged, the shapes differ or the row doesn't exist"
unfoldable pub viewable : List ℕ → List ℕ → ℕ → Bool
viewable a b i =
    valid a and valid b and eqb (rows a) (rows b) and eqb (cols a) (cols b) and ltb i (rows a)

-- the row has no entry
abbrev pub row_empty : List ℕ → ℕ → Bool
row_empty s i = eqb (start s i) (start s (i + 1))

-- "the part shown lies in the first sheet where that row has an entry, otherwise in the second"
unfoldable pub row_view : Section → List ℕ → List ℕ → ℕ → View
row_view section a b i =
    cond (viewable a b i)
    (cond (row_empty a i)
    (second (section_from section b i) (section_to section b i))
    (first (section_from section a i) (section_to section a i)))
    nothing

-- "it is a part of the lent words": r is the part of a or b that the view names
abbrev pub Shown : Bor (List ℕ) → Bor (List ℕ) → Bor (List ℕ) → View → Type 0
Shown r a b (first x y) = PartOf r a x y
Shown r a b (second x y) = PartOf r b x y

-- the same in numbers: which matrix, from which word on, how many words
abbrev pub placed : Bool → ℕ → ℕ → Place
placed inSecond x n = record { in_second = inSecond; from = x; count = n }

abbrev pub place_in : Bool → ℕ → ℕ → Place
place_in inSecond x y = placed inSecond x (y - x)

abbrev pub place_of : View → Place
place_of (first x y) = place_in false x y
place_of (second x y) = place_in true x y
