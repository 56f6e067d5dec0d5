-- `add_at`: the first product at a column stands as it is, and a later one is added to the sum.
use mathlib.Core.Path.{sym, ◌∙◌}
use Rattle.products.proofs.ByEntries.{added_first, added_later}
use Rattle.products.proofs.by_entries.add_at.Goals as goal

pub returns-then-mark-eq0 : goal.returns-then-mark-eq0
returns-then-mark-eq0 c =
    let a = c.args in
    added_first a.monoid a.product a.sums.now
    (sym c.mark_at-mark.ensures ∙ c.if-mark-eq0.true) c.mark_column.ensures

pub returns : goal.returns
returns c =
    added_later c.args.monoid c.args.product c.args.sums.now c.requires.tracked c.mark_at-mark.ensures
    c.if-mark-eq0.false c.add_product-sum.ensures
