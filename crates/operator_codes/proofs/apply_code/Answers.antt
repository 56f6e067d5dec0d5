-- `apply_code` gives `apply_numbered`: each kind by the table, and the last arm by what is left of the kind.
use Rattle.std.proofs.Common.{None, rules}
use Rattle.operator_codes.specs.Codes.{apply_table, apply_numbered}
use Rattle.operator_codes.proofs.Tables.{unlisted}
use Rattle.operator_codes.proofs.apply_code.Goals as goal

pub returns-in-0 : goal.returns-in-0
unfolding apply_numbered
returns-in-0 c = rw (c.in-0.is, ← c.unary_code.ensures) (search rules)

pub returns-in-1 : goal.returns-in-1
unfolding apply_numbered
returns-in-1 c = rw (c.in-1.is, ← c.binary_code.ensures) (search rules)

pub returns-in-2 : goal.returns-in-2
unfolding apply_numbered
returns-in-2 c = rw (c.in-2.is, ← c.binary_code-in-2.ensures) (search rules)

pub returns-in-3 : goal.returns-in-3
unfolding apply_numbered
returns-in-3 c = rw (c.in-3.is, ← c.index_unary_code.ensures) (search rules)

pub returns-in_default : goal.returns-in_default
unfolding apply_numbered
returns-in_default c = unlisted (apply_table _ _) None _ c.in_default.in_default-own.rest
