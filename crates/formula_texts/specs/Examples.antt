-- Texts and their readings, computed.
use Rattle.std.specs.Prelude.{◌≡◌, refl, [], ◌∷◌}
use Rattle.formula_texts.specs.Trees.{
  Formula,
  one_term,
  plus,
  one_factor,
  times,
  digit,
  bracketed,
}
use Rattle.formula_texts.specs.Reader.{read_as, unreadable, read_formula, reading}
use Rattle.formula_texts.specs.Grouped.{and_term, first_term, first_factor, place, grouped}

-- "1+2*(3)": * binds before +
worked : reading (49 ∷ 43 ∷ 50 ∷ 42 ∷ 40 ∷ 51 ∷ 41 ∷ [])
    ≡ read_as (plus (one_factor (digit 1))
    (one_term (times (digit 2) (one_factor (bracketed (one_term (one_factor (digit 3))))))))
unfolding reading read_formula
worked = refl

-- "0+1+2" is grouped from left to right: 0+1 first
grouped_left : grouped (plus (one_factor (digit 0)) (plus (one_factor (digit 1)) (one_term (one_factor (digit 2)))))
    ≡ and_term (and_term (first_term (first_factor (place 0))) (first_factor (place 1))) (first_factor (place 2))
unfolding grouped
grouped_left = refl

-- "7" is a formula, "8" is none
one_digit : reading (55 ∷ []) ≡ read_as (one_term (one_factor (digit 7)))
unfolding reading read_formula
one_digit = refl

no_eight : reading (56 ∷ []) ≡ unreadable
unfolding reading read_formula
no_eight = refl

-- "1+", the empty text and "()" lack a factor, and "1 " has a blank
no_end : reading (49 ∷ 43 ∷ []) ≡ unreadable
unfolding reading read_formula
no_end = refl

no_bytes : reading [] ≡ unreadable
unfolding reading read_formula
no_bytes = refl

no_factor : reading (40 ∷ 41 ∷ []) ≡ unreadable
unfolding reading read_formula
no_factor = refl

no_blank : reading (49 ∷ 32 ∷ []) ≡ unreadable
unfolding reading read_formula
no_blank = refl

-- three brackets open at once, and four
abbrev inside : Formula → Formula
inside f = one_term (one_factor (bracketed f))

three_deep : reading (40 ∷ 40 ∷ 40 ∷ 49 ∷ 41 ∷ 41 ∷ 41 ∷ [])
    ≡ read_as (inside (inside (inside (one_term (one_factor (digit 1))))))
unfolding reading read_formula
three_deep = refl

four_deep : reading (40 ∷ 40 ∷ 40 ∷ 40 ∷ 49 ∷ 41 ∷ 41 ∷ 41 ∷ 41 ∷ []) ≡ unreadable
unfolding reading read_formula
four_deep = refl
