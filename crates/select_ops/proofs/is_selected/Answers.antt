-- `is_selected` tests the condition that the match found, by ranks.
use Rattle.select_ops.specs.Selects.{selects}
use Rattle.select_ops.proofs.Ranks.{at_most, less, lower, upper}
use Rattle.std.proofs.Common.{rules}
use Rattle.select_ops.proofs.is_selected.Goals as goal

pub returns-in-ValueEq : goal.returns-in-ValueEq
unfolding selects
returns-in-ValueEq c = rw c.in-ValueEq.is

pub returns-in-ValueNe : goal.returns-in-ValueNe
unfolding selects
returns-in-ValueNe c = rw c.in-ValueNe.is

pub returns-in-ValueLt : goal.returns-in-ValueLt
unfolding selects
returns-in-ValueLt c =
    rw (c.in-ValueLt.is, c.rank.ensures, c.rank-in-ValueLt.ensures)
    (less _ _ (search rules) (search rules))

pub returns-in-ValueLe : goal.returns-in-ValueLe
unfolding selects
returns-in-ValueLe c =
    rw (c.in-ValueLe.is, c.rank-in-ValueLe.ensures, c.rank-in-ValueLe-2.ensures)
    (at_most _ _ (search rules) (search rules))

pub returns-in-ValueGt : goal.returns-in-ValueGt
unfolding selects
returns-in-ValueGt c =
    rw (c.in-ValueGt.is, c.rank-in-ValueGt.ensures, c.rank-in-ValueGt-2.ensures)
    (less _ _ (search rules) (search rules))

pub returns-in-ValueGe : goal.returns-in-ValueGe
unfolding selects
returns-in-ValueGe c =
    rw (c.in-ValueGe.is, c.rank-in-ValueGe.ensures, c.rank-in-ValueGe-2.ensures)
    (at_most _ _ (search rules) (search rules))

pub returns-in-Tril : goal.returns-in-Tril
unfolding selects
returns-in-Tril c =
    rw (c.in-Tril.is, c.raised.ensures, c.raised_sum.ensures)
    (lower _ _ _ (search rules))

pub returns-in-Triu : goal.returns-in-Triu
unfolding selects
returns-in-Triu c =
    rw (c.in-Triu.is, c.raised_sum-in-Triu.ensures, c.raised-in-Triu.ensures)
    (upper _ _ _ (search rules))
