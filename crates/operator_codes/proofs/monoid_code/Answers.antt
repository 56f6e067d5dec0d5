-- `monoid_code` gives `monoid_numbered`: each arm by the table, and the last by what is left of the number.
use Rattle.operator_codes.specs.Codes.{monoid_numbered}
use Rattle.operator_codes.proofs.Tables.{no_monoid_lem}
use Rattle.operator_codes.proofs.monoid_code.Goals as goal

pub returns-in-3 : goal.returns-in-3
unfolding monoid_numbered
returns-in-3 c = rw c.in-3.is

pub returns-in-5 : goal.returns-in-5
unfolding monoid_numbered
returns-in-5 c = rw c.in-5.is

pub returns-in-6 : goal.returns-in-6
unfolding monoid_numbered
returns-in-6 c = rw c.in-6.is

pub returns-in-7 : goal.returns-in-7
unfolding monoid_numbered
returns-in-7 c = rw c.in-7.is

pub returns-in_default : goal.returns-in_default
returns-in_default c = no_monoid_lem _ c.in_default.in_default-own.rest
