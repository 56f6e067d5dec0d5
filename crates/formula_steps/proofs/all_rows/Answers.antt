-- `all_rows` stages the rows one after the other.
use Rattle.formula_steps.proofs.Rows.{staging_own, advanced_own, gathered_all, gathered_full}
use Rattle.formula_steps.proofs.all_rows.Goals as goal

pub advance-n-requires : goal.advance-n-requires
advance-n-requires c = record { staging = staging_own c.loop-i.invariant; row = c.loop-i-test.true }

pub returns-then-n : goal.returns-then-n
returns-then-n c = gathered_full (advanced_own c.loop-i.invariant c.advance-n.ensures) c.if-n.true

pub loop-i-preserved : goal.loop-i-preserved
loop-i-preserved c = (advanced_own c.loop-i.invariant c.advance-n.ensures).more c.if-n.false

pub returns : goal.returns
returns c = gathered_all c.loop-i.invariant c.loop-i-test.false
