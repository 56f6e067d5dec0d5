-- `check` answers `check_answer`.
use Rattle.conditions.proofs.Tests.{said_no, said_yes}
use Rattle.matrix.proofs.Facts.{matrix_facts}
use Rattle.matrix.proofs.Checks.{check_refused, check_accepted}
use Rattle.matrix.proofs.check.Goals as goal

pub entry_count-requires : goal.entry_count-requires
entry_count-requires c = (matrix_facts _ (said_yes c.is_valid.ensures c.if-is_valid.true)).header

pub returns-then-is_valid : goal.returns-then-is_valid
returns-then-is_valid c = check_accepted _ _ c.entry_count.ensures (said_yes c.is_valid.ensures c.if-is_valid.true)

pub returns-else-is_valid : goal.returns-else-is_valid
returns-else-is_valid c = check_refused _ (said_no c.is_valid.ensures c.if-is_valid.false)
