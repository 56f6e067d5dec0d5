-- `add_up` folds the values.
use mathlib.Core.Path.{◌≡◌, ◌∙◌}
use borrow.Author.Rules.{rules}
use Rattle.std.specs.List.{fold}
use Rattle.operators.specs.Operators.{binary_word}
use Rattle.reductions.proofs.Totals.{total_is}
use Rattle.reductions.proofs.add_up.Goals as goal

pub returns : goal.returns
returns c =
    let a = c.args in
    let e : c.fold.result ≡ fold (binary_word a.op) a.x a.values.now = search rules in
    e ∙ total_is a.op a.x a.values.now
