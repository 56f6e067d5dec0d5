-- Each accepted text has one reading.
use mathlib.Core.Path.{◌≡◌, sym, ◌∙◌}
use Prim.Native.Nat.{ℕ}
use native.Mathlib.Omega.{arith}
use Rattle.formula_texts.specs.Trees.{Formula}
use Rattle.formula_texts.specs.Reader.{Outcome, read_as, unreadable, reading}
use Rattle.formula_texts.specs.OneReading.{OneReading}
use Rattle.formula_texts.proofs.Once.{one_reading}
use Rattle.formula_texts.proofs.Reader.{reading_found, reading_sound}
use Rattle.formula_texts.proofs.Grouped.{grouped_text, one_grouping, grouped_value}

-- an outcome is not both
not_both : (o : Outcome) (f : Formula) → o ≡ unreadable → o ≡ read_as f → ⊥
not_both o f p q = let z : ◌≡◌ {A = ℕ} 0 1 = cc in omega arith

-- "each accepted text has one reading"
pub each_once : OneReading
each_once = record {
  one = λ s f g h k. one_reading f g (h.written ∙ sym k.written);
  one_tree = one_reading;
  computed = reading_found;
  sound = reading_sound;
  unread = λ s e i. not_both (reading s) i.0 e (reading_found s i.0 i.1);
  grouped_text = grouped_text;
  one_grouping = one_grouping;
  grouped_value = λ {A} slot add multiply f. grouped_value slot add multiply f;
}
