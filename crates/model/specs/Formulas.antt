-- A formula over the slots (document 02, A8): "the wall is given the text too".
use Rattle.std.specs.Prelude.{ℕ, ◌-◌, Bool, true, false, cond, List, [], ◌∷◌, leb}
use Rattle.conditions.specs.Tests.{◌and◌}
use Rattle.operators.specs.declared.BinaryOp.{BinaryOp}
use Rattle.operators.specs.declared.Monoid.{Monoid}
use Rattle.formula_texts.specs.Reader.{Outcome, read_as, unreadable, reading}
use Rattle.formula_values.specs.Values.{Value, worth, fails, disagree, formula_value}
use Rattle.model.specs.Model.{Slot, vacant, holding, Model, slot_of, is_vacant}

-- what a slot is worth. Of an empty slot it is never used: 13 comes before.
abbrev pub slot_value : Slot → Value
slot_value vacant = fails disagree
slot_value (holding v g) = worth g

-- the value of a text's one reading. Of a text that has none it is never used: 14 comes before.
abbrev pub read_value : Monoid → BinaryOp → (ℕ → Value) → Outcome → Value
read_value monoid op slot (read_as f) = formula_value monoid op slot f
read_value monoid op slot unreadable = fails disagree

-- of a text over the slots
abbrev pub text_value : Monoid → BinaryOp → Model → List ℕ → Value
text_value monoid op m text = read_value monoid op (λ n. slot_value (slot_of m n)) (reading text)

-- whether the byte is a digit that names an empty slot
abbrev pub vacant_byte : Model → ℕ → Bool
vacant_byte m c = (leb 48 c and leb c 55) and is_vacant (slot_of m (c - 48))

-- "13 for an empty place read": some byte of the text names one
unfoldable pub names_vacant : Model → List ℕ → Bool
names_vacant m [] = false
names_vacant m (c ∷ x) = cond (vacant_byte m c) true (names_vacant m x)
