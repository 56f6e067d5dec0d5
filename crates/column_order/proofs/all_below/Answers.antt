-- `all_below` folds the test over the column numbers.
use mathlib.Core.Path.{◌∙◌}
use mathlib.Core.Bool.{true, ◌&&◌}
use lib.Dec.{ltb}
use borrow.Author.Rules.{rules}
use borrow.Author.Tests.{tests}
use Rattle.std.proofs.lemmas.Iterator.{YieldsList-from_slice}
use Rattle.std.proofs.lemmas.Iterator.Consumers.{fold_from_yields_List}
use Rattle.column_order.proofs.Below.{below_kept}
use Rattle.column_order.proofs.all_below.Goals as goal

pub returns : goal.returns
returns c =
    let a = c.args in
    fold_from_yields_List _ (λ below column. ltb column a.bound && below) true c.fold.result c.fold.ensures.ran
    (YieldsList-from_slice a.columns.now c.iter.ensures.rest) (λ b x r q k. search (rules, tests))
    ∙ below_kept a.bound a.columns.now
