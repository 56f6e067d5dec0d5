-- `rows_valid` is the test `rows_valid`: all column numbers are below the bound, and fall only where a row starts.
use mathlib.Core.Path.{◌∙◌}
use Rattle.conditions.proofs.Tests.{said_no, said_yes}
use Rattle.matrix.proofs.Falls.{not_below, falls_decide}
use Rattle.matrix.proofs.rows_valid.Goals as goal

pub returns-then-all_below : goal.returns-then-all_below
returns-then-all_below c =
    rw (c.fall_count.ensures, c.start_falls.ensures) (falls_decide c.args.words.now c.requires.header c.requires.starts
    (said_yes c.all_below.ensures c.if-all_below.true))

pub returns-else-all_below : goal.returns-else-all_below
returns-else-all_below c =
    c.if-all_below.false
    ∙ not_below c.args.words.now c.requires.header c.requires.starts (said_no c.all_below.ensures c.if-all_below.false)
