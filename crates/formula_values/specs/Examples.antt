-- Values of formulas over 1 by 1 grids, computed.
use Rattle.std.specs.Prelude.{ℕ, ◌+◌, ◌≡◌, refl, cond, eqb, Some}
use Rattle.twos_complement.specs.TwosComplement.{signed, word}
use Rattle.operators.specs.declared.BinaryOp.TheVariants.{Minus, Times}
use Rattle.operators.specs.declared.Monoid.TheVariants as monoid
use Rattle.operators.specs.Operators.{binary_word}
use Rattle.conditions.specs.Tests.{◌and◌}
use Rattle.grid.specs.Cell.{Cell}
use Rattle.grid.specs.Entries.{one, gather, flatten}
use Rattle.operations.specs.CellOperations.{dot}
use Rattle.formula_texts.specs.Trees.{Formula, one_term, plus, one_factor, times, digit, bracketed}
use Rattle.formula_texts.specs.Values.{value}
use Rattle.formula_values.specs.Values.{Value, worth, fails, disagree, value_grid, formula_value}

-- slot n holds n + 1; slot 7 is 1 by 2
abbrev slot : ℕ → Value
slot n = worth (record { rows = 1; cols = cond (eqb n 7) 2 1; cell = λ i j. Some (n + 1) })

abbrev cell_of : Value → Cell
cell_of v = (value_grid v).cell 0 0

abbrev d : ℕ → Formula
d n = one_term (one_factor (digit n))

-- "0+1*2" is 1 + 2*3, and not (1 + 2)*3
product_first : cell_of (formula_value monoid.Plus Times slot
    (plus (one_factor (digit 0)) (one_term (times (digit 1) (one_factor (digit 2)))))) ≡ Some 7
unfolding value dot binary_word signed word flatten gather one ◌and◌
product_first = refl

-- "(0+1)*2" is (1 + 2)*3
brackets_first : cell_of (formula_value monoid.Plus Times slot
    (one_term (times (bracketed (plus (one_factor (digit 0)) (d 1))) (one_factor (digit 2))))) ≡ Some 9
unfolding value dot binary_word signed word flatten gather one ◌and◌
brackets_first = refl

-- "3*1*0" with MINUS is (4 - 2) - 1, and not 4 - (2 - 1)
left_to_right : cell_of (formula_value monoid.Plus Minus slot
    (one_term (times (digit 3) (times (digit 1) (one_factor (digit 0)))))) ≡ Some 1
unfolding value dot binary_word signed word flatten gather one ◌and◌
left_to_right = refl

-- "0+7": the shapes differ; "7*0": two columns on the left, one row on the right
shapes_differ : formula_value monoid.Plus Times slot (plus (one_factor (digit 0)) (d 7)) ≡ fails disagree
unfolding value ◌and◌
shapes_differ = refl

inner_differs : formula_value monoid.Plus Times slot (one_term (times (digit 7) (one_factor (digit 0))))
    ≡ fails disagree
unfolding value ◌and◌
inner_differs = refl
