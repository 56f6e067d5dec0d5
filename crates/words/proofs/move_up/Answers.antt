-- `move_up` overwrites with the words from `from` on.
use native.Mathlib.Omega.{arith}
use mathlib.Core.Path.{◌∙◌}
use Rattle.words.proofs.Overwrite.{move_done}
use Rattle.words.proofs.move_up.Goals as goal

pub returns : goal.returns
returns c =
    let a = c.args in
    c.copy_within.ensures.after ∙ move_done a.words.now a.from a.to a.n (omega arith)
