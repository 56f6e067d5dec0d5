-- `formula` attempts the call and clears the stack.
use mathlib.Core.Path.{◌∙◌}
use Rattle.store_formulas.proofs.formula.Goals as goal

pub returns : goal.returns
returns c =
    record {
      performed = c.attempt-answer.ensures;
      cleared = c.clear.ensures ∙ rw c.attempt-answer.auto.stack;
    }
