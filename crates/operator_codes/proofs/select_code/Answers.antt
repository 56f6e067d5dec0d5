-- `select_code` gives `select_numbered`: each arm by the table, and the last by what is left of the number.
use Rattle.std.proofs.Common.{None}
use Rattle.operator_codes.specs.Codes.{select_table, select_numbered}
use Rattle.operator_codes.proofs.Tables.{unlisted}
use Rattle.operator_codes.proofs.select_code.Goals as goal

pub returns-in-0 : goal.returns-in-0
unfolding select_numbered
returns-in-0 c = rw c.in-0.is

pub returns-in-1 : goal.returns-in-1
unfolding select_numbered
returns-in-1 c = rw c.in-1.is

pub returns-in-2 : goal.returns-in-2
unfolding select_numbered
returns-in-2 c = rw c.in-2.is

pub returns-in-3 : goal.returns-in-3
unfolding select_numbered
returns-in-3 c = rw c.in-3.is

pub returns-in-4 : goal.returns-in-4
unfolding select_numbered
returns-in-4 c = rw c.in-4.is

pub returns-in-5 : goal.returns-in-5
unfolding select_numbered
returns-in-5 c = rw c.in-5.is

pub returns-in-6 : goal.returns-in-6
unfolding select_numbered
returns-in-6 c = rw c.in-6.is

pub returns-in-7 : goal.returns-in-7
unfolding select_numbered
returns-in-7 c = rw c.in-7.is

pub returns-in_default : goal.returns-in_default
unfolding select_numbered
returns-in_default c = unlisted (select_table c.args.scalar) None _ c.in_default.in_default-own.rest
