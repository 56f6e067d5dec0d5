-- `index_unary_code` gives `index_unary_numbered`: each arm by the table, and the last by what is left of the number.
use Rattle.std.proofs.Common.{None}
use Rattle.operator_codes.specs.Codes.{index_unary_table, index_unary_numbered}
use Rattle.operator_codes.proofs.Tables.{unlisted}
use Rattle.operator_codes.proofs.index_unary_code.Goals as goal

pub returns-in-0 : goal.returns-in-0
unfolding index_unary_numbered
returns-in-0 c = rw c.in-0.is

pub returns-in-1 : goal.returns-in-1
unfolding index_unary_numbered
returns-in-1 c = rw c.in-1.is

pub returns-in-2 : goal.returns-in-2
unfolding index_unary_numbered
returns-in-2 c = rw c.in-2.is

pub returns-in_default : goal.returns-in_default
unfolding index_unary_numbered
returns-in_default c = unlisted index_unary_table None _ c.in_default.in_default-own.rest
