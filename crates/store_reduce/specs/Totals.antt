-- What is answered of a slot of a store, once the slot and the monoid are known.
use Rattle.std.specs.Prelude.{ℕ, List, cond, length, eqb}
use Rattle.answers.specs.Answers.{NumberAnswer}
use Rattle.answers.specs.Refusals.{empty_slot}
use Rattle.answers.specs.Numbers.{number_answer, refused_number}
use Rattle.operators.specs.declared.Monoid.{Monoid}
use Rattle.matrix.specs.Layout.{grid_of}
use Rattle.slots.specs.Sections.{slot_at}
use Rattle.reductions.specs.Reductions.{grid_total}

abbrev pub slot_answer : Monoid → List ℕ → ℕ → NumberAnswer
slot_answer m s k =
    cond (eqb (length (slot_at s k)) 0) (refused_number empty_slot) (number_answer (grid_total m (grid_of (slot_at s k))))
