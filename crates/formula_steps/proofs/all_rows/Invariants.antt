-- `all_rows` stages the rows one after the other.
use Rattle.formula_steps.specs.Steps.{left_words, right_words, Staging}
use Rattle.formula_steps.proofs.all_rows.Given as goal

abbrev pub invariant-loop-i : goal.invariant-loop-i
invariant-loop-i l =
    Staging l.operation (left_words l.initial.area) (right_words l.initial.area) l.rows l.i l.n l.area l.tc l.tv
